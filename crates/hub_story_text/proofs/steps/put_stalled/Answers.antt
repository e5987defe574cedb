use Rattle.hub_story_text.proofs.steps.put_stalled.Goals as goal

pub returns : goal.returns
returns c =
    rw (c.entries-entries.ensures, c.deref-2.ensures.value, c.in_ok-others.ensures, c.deref.ensures.value, c.in_ok-stalled.ensures)
    at c.in_ok-put_waiters.ensures
