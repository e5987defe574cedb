use Rattle.std.proofs.Common.{◌≡◌, ◌++◌}
use Rattle.hub_page.specs.Block.{IsBlock, IsWhole}
use Rattle.hub_page.specs.Known.{procs_of}
use Rattle.hub_page.specs.KnownPage.{lines_of}
use Rattle.hub_page.specs.Past.{IsPast}
use Rattle.hub_page.proofs.step_lines.put_lines.Given as goal

abbrev pub invariant-loop-place : goal.invariant-loop-place
invariant-loop-place l = record {
  past : IsPast l.known l.place l.past;
  block : IsBlock l.known l.place l.block;
  whole : IsWhole (procs_of l.known) l.block;
  first : l.block.first ≡ l.fn.block.first;
  text : l.out.items ≡ l.fn.out.items ++ lines_of l.known l.fn.block.first l.place;
}
