use Rattle.hub_text.proofs.Appending.{appends-then, appends-part}
use Rattle.hub_text.proofs.writer.put_journal.Goals as goal

pub returns : goal.returns
returns c = rw (← c.head.ensures, ← c.entries.ensures) (appends-then c.in_ok-put_head.ensures c.put_entries.ensures)

pub returns-in_err-put_head : goal.returns-in_err-put_head
returns-in_err-put_head c = rw (← c.head.ensures) (appends-part _ _ c.in_err-put_head.ensures c.from_residual.ensures.0)
