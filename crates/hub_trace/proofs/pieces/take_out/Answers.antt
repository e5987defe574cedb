use Rattle.std.proofs.Common.{◌≡◌, ◌≤◌, ◌+◌, ◌-◌, ◌++◌, ◌∷◌, [], ℕ, List, length, take, drop, arith, ap, ◌∙◌, refl, sym, length-append}
use Rattle.std.specs.Prelude.{vec_len}
use Rattle.std.proofs.Math.Seq.{paste, take-append_seam, drop-append-add}
use Rattle.std.proofs.lemmas.List.{take_all, length-drop}
use Rattle.std.proofs.lemmas.List.Edits.{take-paste}
use Rattle.hub_trace.proofs.pieces.take_out.Goals as goal

-- without the newline
without-last : (xs all : List ℕ) → all ≡ xs ++ 10 ∷ [] → take (length all - 1) all ≡ xs
without-last xs all is =
    let many : length all - 1 ≡ length xs = omega (arith, ap length is, length-append xs (10 ∷ [])) in
    ap (λ n. take n all) many ∙ ap (take (length xs)) is ∙ take-append_seam xs (10 ∷ [])

-- what stands behind the process is moved to where the line begins
moved : (front words : List ℕ) (process n : ℕ) → process ≤ length words → n ≡ length words - process →
    take (length front + n) (paste (front ++ words) (length front) (drop (length front + process) (front ++ words)) n) ≡ front ++ drop process words
moved front words process n few many =
    let behind : drop (length front + process) (front ++ words) ≡ drop process words = drop-append-add front words process in
    let left : length (drop process words) ≡ n = omega (arith, length-drop process words, many) in
    ap (λ l. take (length front + n) (paste (front ++ words) (length front) l n)) behind
    ∙ take-paste (front ++ words) (length front) (drop process words) n (omega (arith, length-append front words)) (omega (arith, left))
    ∙ (λ i. take-append_seam front words i ++ take_all n (drop process words) (omega (arith, left)) i)

pub returns : goal.returns
returns c = λ front words is at.
    let all : List ℕ = c.args.out.now.items in
    let whole : List ℕ = front ++ words in
    let behind : ℕ = c.min-process.result in
    let n : ℕ = length words - behind in
    let many : length whole ≡ length front + length words = length-append front words in
    let size : c.len.result ≡ length all = omega (arith, c.len.ensures) in
    let end : vec_len c.truncate.new.self ≡ length c.truncate.new.self.items = omega arith in
    let cut : c.truncate.new.self.items ≡ whole =
    c.truncate.ensures.items ∙ ap (λ k. take (k - 1) all) size ∙ without-last whole all is in
    let cuts : length c.truncate.new.self.items ≡ length whole = ap length cut in
    let few : behind ≤ length words = omega (arith, c.min-process.ensures, c.len-2.ensures, cuts, many, at) in
    let moves : c.copy_within.new.self.items ≡ paste whole (length front) (drop (length front + behind) whole) n =
    c.copy_within.ensures.items
    ∙ ap (λ k. paste c.truncate.new.self.items c.args.line (drop (c.args.line + behind) c.truncate.new.self.items) (k - (c.args.line + behind))) end
    ∙ ap (λ (l : List ℕ). paste l c.args.line (drop (c.args.line + behind) l) (length l - (c.args.line + behind))) cut
    ∙ ap (λ k. paste whole k (drop (k + behind) whole) (length whole - (k + behind))) (sym at)
    ∙ ap (paste whole (length front) (drop (length front + behind) whole)) (omega (arith, many, few)) in
    let left : c.len-3.result - behind ≡ length front + n = omega (arith, c.len-3.ensures, c.copy_within.ensures.len, cuts, many, few) in (
      behind,
      c.truncate-2.ensures.items ∙ ap (λ k. take k c.copy_within.new.self.items) left ∙ ap (take (length front + n)) moves
          ∙ moved front words behind n few refl,
    )
