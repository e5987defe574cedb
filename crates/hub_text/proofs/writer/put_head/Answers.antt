use Rattle.hub_text.proofs.Appending.{appends-then, appends-part}
use Rattle.hub_text.proofs.writer.put_head.Goals as goal

pub returns : goal.returns
returns c =
    rw (← c.header.ensures, ← c.into.ensures) (
    appends-then c.in_ok-put.ensures.appends (
    appends-then c.in_ok-put-2.ensures.appends (appends-then c.in_ok-put_before_number.ensures c.put-3.ensures.appends)
    )
    )

pub returns-in_err-put : goal.returns-in_err-put
returns-in_err-put c = rw (← c.header.ensures) (appends-part _ _ c.in_err-put.ensures.appends c.from_residual.ensures.0)

pub returns-in_err-put-2 : goal.returns-in_err-put-2
returns-in_err-put-2 c =
    rw (← c.header.ensures) (
    appends-then c.in_ok-put.ensures.appends (appends-part _ _ c.in_err-put-2.ensures.appends c.from_residual-in_err-put-2.ensures.0)
    )

pub returns-in_err-put_before_number : goal.returns-in_err-put_before_number
returns-in_err-put_before_number c =
    rw (← c.header.ensures, ← c.into.ensures) (
    appends-then c.in_ok-put.ensures.appends (
    appends-then c.in_ok-put-2.ensures.appends (
    appends-part _ _ c.in_err-put_before_number.ensures c.from_residual-in_err-put_before_number.ensures.0
    )
    )
    )
