use Rattle.std.proofs.Common.{◌≡◌, ◌+◌, ◌++◌, ◌∙◌, ap, subst, sym}
use Rattle.hub_story.specs.Levels.{AreLevels, told_by}
use Rattle.hub_page.specs.Known.{entries_of, procs_of, told_of}
use Rattle.hub_page.specs.ParkedCalls.{AreParked}
use Rattle.hub_page.proofs.past.Past.step.Goals as goal

pub returns-clause-past : goal.returns-clause-past
returns-clause-past c =
    let k = c.args.known.now in
    let all = told_of k in
    let place = c.args.place in
    let told : told_by place all ++ c.came-came.result.now ≡ told_by (place + 1) all =
    ap (λ l. told_by place all ++ l) (c.came-came.ensures ∙ c.in_ok-entry.ensures.came) ∙ sym (c.requires.known.known.telling.grown place c.requires.within) in
    let counted = rw c.entries.ensures at c.in_ok-note_all.ensures.counted in
    let parked = rw c.procs.ensures at c.note_all-2.ensures.parked in
    record {
      at = c.in_ok-entry.ensures.at;
      seen = c.in_ok-self.ensures.seen;
      levels = subst (λ l. AreLevels (entries_of k) l c.note_all.new.self) told (counted _ c.requires.past.levels);
      whole_levels = c.note_all.ensures.whole;
      parked = subst (λ l. AreParked (procs_of k) l c.note_all-2.new.self) told (parked _ c.requires.past.parked);
      whole_parked = rw c.procs.ensures at c.note_all-2.ensures.whole;
    }
