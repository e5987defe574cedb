-- How much room steps and processes have on a page.
use Rattle.std.specs.Prelude.{◌≤◌}
use Rattle.hub_picture.specs.declared.frame.Sizes.{Sizes}

-- the sizes are small, and these are never 0
pub record AreBounded (s : Sizes) : Type 0 where
  pub half_least : 10 ≤ s.half
  pub half : s.half ≤ 40
  pub lane : s.lane ≤ 58
  pub size : s.size ≤ 36
  pub thick : s.thick ≤ 5
  pub steps_least : 1 ≤ s.steps
  pub steps : s.steps ≤ 60
  pub tick_least : 1 ≤ s.tick
