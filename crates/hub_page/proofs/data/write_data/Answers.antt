use Rattle.std.proofs.Common.{◌≡◌, ◌∙◌, ℕ, List, [], ◌++◌, ap, append-nil, length, refl, sym}
use Rattle.std.proofs.KnownBytes.{Appends-nil}
use Rattle.std.specs.List.{flat_map, range_with_len}
use Rattle.std.proofs.lemmas.Result.{on_err_weaker, on_ok_weaker}
use Rattle.hub_base.specs.Reading.{head_lines}
use Rattle.hub_base.proofs.Results.{on-err}
use Rattle.hub_story.specs.declared.window.Window.{Window}
use Rattle.hub_story.specs.Clock.{clock_of}
use Rattle.hub_page.specs.declared.known.Known.{Known}
use Rattle.hub_page.specs.Data.{block_count, block_text, whole_blocks, window_line}
use Rattle.hub_page.specs.Known.{entries_of, head_of, procs_of, told_of}
use Rattle.hub_page.specs.KnownPage.{all_blocks, data_of}
use Rattle.hub_page.proofs.Written.{begun, none-begun, one-more}
use Rattle.hub_page.proofs.data.write_data.Goals as goal

-- the first lines, and the blocks
both : (w : Window) (k : Known) (lines : List ℕ) → k.window ≡ whole_blocks (length (entries_of k)) w →
    lines ≡ head_lines (head_of k) ++ window_line w (clock_of (head_of k) (entries_of k)) → data_of w k ≡ lines ++ all_blocks k
both w k lines same is =
    ap (λ (v : Window). (head_lines (head_of k) ++ window_line w (clock_of (head_of k) (entries_of k)))
    ++ flat_map (block_text v (procs_of k) (entries_of k) (told_of k)) (range_with_len 0 (block_count (length (entries_of k))))) (sym same)
    ∙ ap (λ l. l ++ all_blocks k) (sym is)

pub returns-in_err-lines-clause-beginning : goal.returns-in_err-lines-clause-beginning
returns-in_err-lines-clause-beginning g c = on-err c.from_residual.result (none-begun _ (data_of c.args.window c.args.known.now))

pub returns-in_err-write_whole-clause-beginning : goal.returns-in_err-write_whole-clause-beginning
returns-in_err-write_whole-clause-beginning g c =
    let k = c.args.known.now in
    on-err c.from_residual-in_err-write_whole.result
    (begun _ _ _ [] (c.deref.result.now ++ all_blocks k) c.deref.result.now (all_blocks k) (data_of c.args.window k) (Appends-nil _)
    c.in_err-write_whole.ensures.beginning refl (both c.args.window k _ c.requires.window (c.deref.ensures.value ∙ c.in_ok-lines.ensures)))

pub returns-clause-beginning : goal.returns-clause-beginning
returns-clause-beginning g c =
    let k = c.args.known.now in
    let lines = c.deref.result.now in
    on_err_weaker c.write_blocks.result
    (λ begins. begun _ _ _ lines (all_blocks k) (all_blocks k) [] (data_of c.args.window k) c.in_ok-write_whole.ensures.whole begins
    (sym (append-nil (all_blocks k))) (both c.args.window k lines c.requires.window (c.deref.ensures.value ∙ c.in_ok-lines.ensures)))
    c.write_blocks.ensures.beginning

pub returns-clause-whole : goal.returns-clause-whole
returns-clause-whole g c =
    let k = c.args.known.now in
    let lines = c.deref.result.now in
    on_ok_weaker c.write_blocks.result
    (λ whole. one-more _ _ _ lines (all_blocks k) (all_blocks k) (data_of c.args.window k) c.in_ok-write_whole.ensures.whole whole refl
    (both c.args.window k lines c.requires.window (c.deref.ensures.value ∙ c.in_ok-lines.ensures)))
    c.write_blocks.ensures.whole
