-- What stands in a place that an entry is read into: whose step it is, the step without cases, and beside it those of the
-- last call.
use Rattle.hub_base.specs.Entry.{Step, with_cases}
use Rattle.hub_text.specs.declared.place.StepPlace.{StepPlace}

-- the step that stands there
abbrev pub step_in : StepPlace → Step
step_in place = with_cases place.bare place.cases
