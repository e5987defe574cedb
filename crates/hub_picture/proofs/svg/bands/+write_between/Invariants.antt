use Rattle.std.proofs.Common.{◌-◌}
use Rattle.hub_picture.proofs.svg.bands.+write_between.Given as goal

abbrev pub decreases-write_between : goal.decreases-write_between
decreases-write_between g l = l.end - l.first
