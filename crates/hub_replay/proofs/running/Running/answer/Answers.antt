use Rattle.std.proofs.Common.{sym, ◌∙◌, ap, refl, ◌++◌}
use Rattle.std.specs.List.{flat_map}
use Rattle.hub_base.specs.EventText.{event_line}
use Rattle.hub_replay.proofs.Counting.{entry-counts, entry-beyond}
use Rattle.hub_replay.proofs.running.Running.answer.Goals as goal

pub returns-in_default-steps_after-clause-goes : goal.returns-in_default-steps_after-clause-goes
returns-in_default-steps_after-clause-goes c = λ head entries line body runs at_line.
    (entry-beyond entries c.read_entry.new.place _ _ runs.counted (sym c.in_default-steps_after.ensures) (c.in_default.ensures head line body at_line), refl)

pub returns-clause-goes : goal.returns-clause-goes
returns-clause-goes c = λ head entries line body runs at_line.
    let count = entry-counts entries c.read_entry.new.place _ c.in-Some.steps runs.counted (sym c.in-Some.ensures) in
    let tells = c.in_ok-step_into.ensures.ok head entries runs.follows in
    record {
      entry = c.read_entry.new.place;
      read = c.in_default.ensures head line body at_line;
      fits = count.fits;
      runs = record { follows = tells.answers.follows; counted = count.counted };
      said = tells.heard ∙ ap (λ l. l ++ flat_map event_line tells.told) c.in_ok-make_step_room.ensures.lines
          ∙ ap (λ es. c.args.answers.now.lines ++ flat_map event_line es) tells.answers.events;
    }
