use Rattle.std.proofs.Common.{◌≡◌, ◌∙◌, ℕ, ◌+◌, List, [], ◌∷◌, ◌++◌, Option, ap, sym, subst, append_assoc, arith, length, take, drop, Bor}
use Rattle.std.proofs.lemmas.List.{take-append-drop}
use Rattle.std.specs.Prelude.{get_or}
use Rattle.std.proofs.lemmas.Option.{slice_get-get_or}
use Rattle.std.proofs.Math.Seq.{take-length}
use Rattle.hub_cut.specs.Texts.{AreWhole, IsAt, StandsAt}
use Rattle.chanhub_tool.proofs.Held.{as_many, reads_next}
use Rattle.chanhub_tool.proofs.commands.chain.check.Goals as goal

-- no bytes
abbrev none : Bor (List ℕ)
none = record { ref_ptr = (0, 0); now = [] }

pub loop-file-preserved : goal.loop-file-preserved
loop-file-preserved g c = λ texts all.
    let i = c.loop-file.file-index in
    let files = c.args.files.now in
    let gives = λ (f : Bor (List ℕ)). g.S.Shelf.gives c.args.shelf.now f.now in
    let at = reads_next gives i files texts (get_or files i none) c.in_ok-text.text.items c.deref.result.now all
    (slice_get-get_or files i none c.loop-file-test.true) c.in_ok-text.ensures c.deref.ensures.value in
    subst (λ (ts : List (List ℕ)). StandsAt c.in-Ok.longer ts) (sym at.next) (c.in-Ok.ensures.ok (take i texts) (c.loop-file.invariant texts all))

pub returns-clause-ok : goal.returns-clause-ok
returns-clause-ok g c = λ texts all.
    let many : length c.args.files.now ≡ length texts =
    as_many (λ (f : Bor (List ℕ)). g.S.Shelf.gives c.args.shelf.now f.now) c.args.files.now texts all in
    let whole : c.loop-file.file-index ≡ length texts = omega (arith, c.loop-file-test.false, c.loop-file.auto.file-index-end, many) in
    subst (λ (ts : List (List ℕ)). IsAt c.loop-file.chain ts) (ap (λ n. take n texts) whole ∙ take-length texts)
    (c.loop-file.invariant texts all)

pub returns-in-Err-clause-err : goal.returns-in-Err-clause-err
returns-in-Err-clause-err g c = λ read texts all whole.
    let i = c.loop-file.file-index in
    let files = c.args.files.now in
    let gives = λ (f : Bor (List ℕ)). g.S.Shelf.gives c.args.shelf.now f.now in
    let at = reads_next gives i files texts (get_or files i none) c.in_ok-text.text.items c.deref.result.now all
    (slice_get-get_or files i none c.loop-file-test.true) c.in_ok-text.ensures c.deref.ensures.value in
    let parts : texts ≡ take i texts ++ c.deref.result.now ∷ drop (i + 1) texts =
    sym (take-append-drop (i + 1) texts) ∙ ap (λ (ts : List (List ℕ)). ts ++ drop (i + 1) texts) at.next
    ∙ append_assoc (take i texts) (c.deref.result.now ∷ []) (drop (i + 1) texts) in
    c.in-Err.ensures.only (c.broken_at.ensures read) (take i texts) (drop (i + 1) texts) (c.loop-file.invariant texts all)
    (subst (λ (ts : List (List ℕ)). AreWhole ts) parts whole)
