use Rattle.std.proofs.Common.{◌∙◌, ◌++◌, ℕ, List, [], ap, append-nil, subst, sym, Bool, Ok}
use Rattle.std.specs.List.{flat_map}
use Rattle.hub_base.specs.EventText.{event_line}
use Rattle.hub_text.specs.Reader.{FillsOn}
use Rattle.hub_replay.specs.Replayed.{ReplayedWhole}
use Rattle.hub_replay.proofs.Replayed.{one-more-replayed, all-replayed}
use Rattle.hub_replay.proofs.steps.Steps.step.Goals as goal

pub returns-then-not-branch-clause-ok : goal.returns-then-not-branch-clause-ok
returns-then-not-branch-clause-ok c = λ bytes text so_far. record {
  more = [];
  written = sym (append-nil c.args.lines.now.lines);
  whole = subst (λ (t : List ℕ). ReplayedWhole bytes t) (sym (append-nil text)) (all-replayed so_far (c.one_reading.ensures.reads bytes)
      (subst (λ (b : Bool). FillsOn c.args.self.now.reader c.read_into.new.self c.read_into.new.place (Ok b)) c.if-not-branch.true
      c.in_ok-read_into.ensures.reads).0);
}

pub returns-clause-ok : goal.returns-clause-ok
returns-clause-ok c = λ bytes text so_far.
    let tells = c.in_ok-step_into.ensures.ok _ _ so_far.follows in
    record {
      more = flat_map event_line tells.told;
      written = tells.heard ∙ ap (λ l. l ++ flat_map event_line tells.told) c.in_ok-make_step_room.ensures.lines;
      replayed = one-more-replayed so_far c.read_into.new.place tells.told
          (subst (λ (b : Bool). FillsOn c.args.self.now.reader c.read_into.new.self c.read_into.new.place (Ok b)) c.if-not-branch.false
          c.in_ok-read_into.ensures.reads) tells.answers tells.few;
    }
