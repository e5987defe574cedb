use Rattle.std.proofs.Common.{[], ap, ◌∙◌, length, None, Option}
use Rattle.std.proofs.lemmas.List.{length-replicate}
use Rattle.hub_base.specs.declared.event.Event.{Event}
use Rattle.hub_base.specs.declared.limits.TheConstants.{MOST_PROCS}
use Rattle.hub_chapters.specs.Chapters.Chapters.{First}
use Rattle.hub_cut.specs.Recorder.{head_of_all}
use Rattle.hub_live.specs.Answers.{AnswersView}
use Rattle.hub_served.proofs.endless_hub.EndlessHub.open.Goals as goal

pub invariant_of-result : goal.invariant_of-result
invariant_of-result c =
    record {
      explained = (
        First [],
        record { records = c.in_ok-recorder.ensures.ok; replies = c.new.ensures.replies (head_of_all c.in_ok-recorder.recorder) [] },
      );
      places = ap (λ (a : AnswersView). length a.waiting) c.new.ensures.value ∙ length-replicate {A = Option Event} MOST_PROCS None;
    }

pub returns-clause-ok : goal.returns-clause-ok
returns-clause-ok c = record { records = c.in_ok-recorder.ensures.ok; replies = c.new.ensures.replies (head_of_all c.in_ok-recorder.recorder) [] }
