-- The blocks so far were written, and no write has failed.
use Rattle.std.proofs.Common.{◌≡◌, length}
use Rattle.std.specs.Io.KnownBytes.{Appends}
use Rattle.hub_page.specs.Data.{block_begin}
use Rattle.hub_page.specs.Known.{entries_of}
use Rattle.hub_page.specs.KnownPage.{blocks_of}
use Rattle.hub_page.specs.Past.{IsPast}
use Rattle.hub_page.proofs.data.write_blocks.Given as goal

abbrev pub invariant-loop-number : goal.invariant-loop-number
invariant-loop-number g l = record {
  past : IsPast l.known (block_begin (length (entries_of l.known)) l.number) l.past;
  written : Appends (g.W.Sink.contents l.fn.output) (g.W.Sink.contents l.output) (blocks_of l.known l.number);
  same : g.W.Sink.failures l.output ≡ g.W.Sink.failures l.fn.output;
}
