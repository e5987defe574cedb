use Rattle.hub_page.proofs.DataRead.{one-journal}
use Rattle.hub_page.proofs.laws.page_is_read_back.Goals as goal

pub returns : goal.returns
returns c = one-journal
