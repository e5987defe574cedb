use Rattle.std.proofs.Common.{◌++◌, [], codes, count_by, decimal, length}
use Rattle.std.specs.List.{flat_map}
use Rattle.std.proofs.lemmas.Result.{on_ok_weaker}
use Rattle.hub_story_text.specs.Explained.{entries_of, told_of}
use Rattle.hub_story_text.specs.Waits.{counts, line_at, longest, waits}
use Rattle.hub_story_text.proofs.Chains.{two, one-more, two-more}
use Rattle.hub_story_text.proofs.Lateness.{longest-late}
use Rattle.hub_story_text.proofs.waits.put_waits.Goals as goal

pub put_longest-requires-clause-late : goal.put_longest-requires-clause-late
put_longest-requires-clause-late c =
    let e = c.args.explained.now in
    rw (c.deref.ensures.value, c.requires.waits.longest) (longest-late (entries_of e) (told_of e) c.requires.explained.known.telling e.clock)

pub returns : goal.returns
returns c =
    let es = entries_of c.args.explained.now in
    let told = told_of c.args.explained.now in
    let clock = c.args.explained.now.clock in
    let out = c.args.out.now.items in
    let waited = decimal (length (waits clock es told)) in
    let calls = decimal (count_by (counts clock) es) in
    let counted = rw c.entries.ensures at c.calls_of.ensures in
    let first = two out c.put_number.new.out.items [] waited (rw c.requires.waits.count at c.in_ok-put_number.ensures) in
    let second = two-more out c.put_number.new.out.items c.put_number-2.new.out.items waited (codes " of ") calls first
    (rw counted at c.in_ok-put_number-2.ensures) in
    let words = codes " calls waited, the longest first, five at most\n" in
    let heading = one-more out c.put_number-2.new.out.items c.extend_from_slice.new.self.items (waited ++ codes " of " ++ calls)
    words second c.in_ok-extend_from_slice.ensures.items in
    on_ok_weaker c.put_longest.result
    (one-more out c.extend_from_slice.new.self.items c.put_longest.new.out.items (waited ++ codes " of " ++ calls ++ words)
    (flat_map (line_at clock es told) (longest (waits clock es told))) heading)
    (rw (c.deref.ensures.value, c.requires.waits.longest) at c.put_longest.ensures)
