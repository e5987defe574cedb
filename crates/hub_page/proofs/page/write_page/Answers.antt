use Rattle.std.proofs.Common.{List, Option, subst, sym, ℕ, ◌≡◌}
use Rattle.std.specs.Io.KnownBytes.{Appends}
use Rattle.hub_base.specs.Head.{IsHead}
use Rattle.hub_base.specs.Journal.{JournalView}
use Rattle.hub_base.proofs.Results.{on-err}
use Rattle.hub_replay.specs.Devices.{AppendsBeginning}
use Rattle.hub_story.specs.declared.window.Window.{Window}
use Rattle.hub_story.specs.Told.{told}
use Rattle.hub_page.specs.declared.known.Known.{Known}
use Rattle.hub_page.specs.KnownPage.{data_of, end_of, page_of}
use Rattle.hub_page.specs.Page.{page_text}
use Rattle.hub_page.specs.Viewer.{after_text, before_text, between_text}
use Rattle.hub_page.proofs.Written.{first-begun, none-begun, second-begun, third-begun, three-written}
use Rattle.hub_page.proofs.page.write_page.Goals as goal

-- the journal is the one of which so much is known
module _ (old new : Option (List ℕ)) (w : Window) (k : Known) (j : JournalView) (same : k.explained.journal.now ≡ j) where
  page-begun : AppendsBeginning old new (page_of w k) → AppendsBeginning old new (page_text w j.head j.entries (told j.head j.entries))
  page-begun = subst (λ (j : JournalView). AppendsBeginning old new (page_text w j.head j.entries (told j.head j.entries))) same

  page-written : Appends old new (page_of w k) → Appends old new (page_text w j.head j.entries (told j.head j.entries))
  page-written = subst (λ (j : JournalView). Appends old new (page_text w j.head j.entries (told j.head j.entries))) same

pub returns-in_err-found-clause-beginning : goal.returns-in_err-found-clause-beginning
returns-in_err-found-clause-beginning g c = on-err c.from_residual.result (none-begun _ _)

pub new-requires-2-clause-head : goal.new-requires-2-clause-head
new-requires-2-clause-head g c = subst (λ (j : JournalView). IsHead j.head) (sym c.new.ensures.journal) c.requires.head

pub returns-in_err-past-clause-beginning : goal.returns-in_err-past-clause-beginning
returns-in_err-past-clause-beginning g c = on-err c.from_residual-in_err-past.result (none-begun _ _)

pub returns-in_err-write_before-clause-beginning : goal.returns-in_err-write_before-clause-beginning
returns-in_err-write_before-clause-beginning g c =
    let k : Known = record { explained = c.new.result; window = c.whole_blocks.result } in
    on-err c.from_residual-in_err-write_before.result
    (page-begun _ _ c.args.window k _ c.new.ensures.journal
    (first-begun _ _ _ after_text (first-begun _ _ _ (end_of k)
    (first-begun _ _ _ between_text (first-begun _ _ before_text (data_of c.args.window k) c.in_err-write_before.ensures.beginning)))))

pub returns-in_err-write_data-clause-beginning : goal.returns-in_err-write_data-clause-beginning
returns-in_err-write_data-clause-beginning g c =
    let k : Known = record { explained = c.new.result; window = c.whole_blocks.result } in
    on-err c.from_residual-in_err-write_data.result
    (page-begun _ _ c.args.window k _ c.new.ensures.journal
    (first-begun _ _ _ after_text (first-begun _ _ _ (end_of k)
    (second-begun _ _ between_text _ _ _ c.in_ok-write_before.ensures.whole c.in_err-write_data.ensures.beginning))))

pub returns-in_err-write_between-clause-beginning : goal.returns-in_err-write_between-clause-beginning
returns-in_err-write_between-clause-beginning g c =
    let k : Known = record { explained = c.new.result; window = c.whole_blocks.result } in
    on-err c.from_residual-in_err-write_between.result
    (page-begun _ _ c.args.window k _ c.new.ensures.journal
    (first-begun _ _ _ after_text (first-begun _ _ _ (end_of k)
    (third-begun _ _ _ _ _ _ _ c.in_ok-write_before.ensures.whole c.in_ok-write_data.ensures.whole c.in_err-write_between.ensures.beginning))))

pub returns-in_err-write_end-clause-beginning : goal.returns-in_err-write_end-clause-beginning
returns-in_err-write_end-clause-beginning g c =
    let k : Known = record { explained = c.new.result; window = c.whole_blocks.result } in
    on-err c.from_residual-in_err-write_end.result
    (page-begun _ _ c.args.window k _ c.new.ensures.journal
    (second-begun _ _ after_text _ _ _
    (three-written _ _ _ _ _ _ _ c.in_ok-write_before.ensures.whole c.in_ok-write_data.ensures.whole c.in_ok-write_between.ensures.whole)
    c.in_err-write_end.ensures.beginning))

pub returns-in_err-write_after-clause-beginning : goal.returns-in_err-write_after-clause-beginning
returns-in_err-write_after-clause-beginning g c =
    let k : Known = record { explained = c.new.result; window = c.whole_blocks.result } in
    on-err c.from_residual-in_err-write_after.result
    (page-begun _ _ c.args.window k _ c.new.ensures.journal
    (third-begun _ _ _ _ _ _ _
    (three-written _ _ _ _ _ _ _ c.in_ok-write_before.ensures.whole c.in_ok-write_data.ensures.whole c.in_ok-write_between.ensures.whole)
    c.in_ok-write_end.ensures.whole c.in_err-write_after.ensures.beginning))

pub returns-clause-whole : goal.returns-clause-whole
returns-clause-whole g c =
    let k : Known = record { explained = c.new.result; window = c.whole_blocks.result } in
    page-written _ _ c.args.window k _ c.new.ensures.journal
    (three-written _ _ _ _ _ _ _
    (three-written _ _ _ _ _ _ _ c.in_ok-write_before.ensures.whole c.in_ok-write_data.ensures.whole c.in_ok-write_between.ensures.whole)
    c.in_ok-write_end.ensures.whole c.in_ok-write_after.ensures.whole)
