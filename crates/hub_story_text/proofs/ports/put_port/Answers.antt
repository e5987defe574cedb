use Rattle.std.proofs.Common.{◌≡◌, ℕ, List, ◌∙◌, ◌++◌, ap, sym, codes, decimal, length, slice_get, []}
use Rattle.std.specs.Option.{option_map_or}
use Rattle.hub_base.specs.Entry.{Entry}
use Rattle.hub_story.specs.Levels.{received_by, sent_by}
use Rattle.hub_story.specs.OfPorts.{things_on}
use Rattle.hub_story.specs.Told.{told}
use Rattle.hub_story.specs.Passing.{receives, sends}
use Rattle.hub_story_text.specs.Closers.{turns_on}
use Rattle.hub_story_text.specs.declared.closers.Turns.{Turns}
use Rattle.hub_story_text.specs.Fullest.{fullest, fullest_of, steps_of}
use Rattle.hub_story_text.specs.PortText.{by_words, cap_words, counts_words, most_words, opened_at, turn_words}
use Rattle.hub_story_text.proofs.Chains.{one-more, two}
use Rattle.hub_story_text.proofs.Closings.{among-turns}
use Rattle.hub_story_text.proofs.Levels.{fullest-is, moved_by_steps}
use Rattle.hub_story_text.proofs.Places.{received-steps, received-up, sent-steps, sent-up}
use Rattle.hub_story_text.proofs.ports.put_port.Goals as goal

pub fullest_on-requires-clause-sent : goal.fullest_on-requires-clause-sent
fullest_on-requires-clause-sent c = sent-up _ _ c.args.moves.now c.requires.moves c.requires.telling.in_order c.args.port

pub fullest_on-requires-clause-received : goal.fullest_on-requires-clause-received
fullest_on-requires-clause-received c = received-up _ _ c.args.moves.now c.requires.moves c.requires.telling.in_order c.args.port

pub returns : goal.returns
returns c =
    let es = c.args.journal.now.entries in
    let all = told c.args.journal.now.head c.args.journal.now.entries in
    let whole = c.requires.telling.within in
    let p = c.args.port in
    let out = c.args.out.now.items in
    let turns = turns_on es all p in
    let are-turns : c.turns_on-reopened.result ≡ turns =
    c.turns_on-reopened.ensures ∙ ap (λ l. turns_on l c.args.turns.now p) c.entries.ensures ∙ ap (λ l. turns_on es l p) c.requires.turns
    ∙ among-turns es p all in
    let caps : ℕ → List ℕ = λ place. option_map_or (λ (e : Entry). cap_words e.step) (slice_get es place) [] in
    let cap = caps (opened_at c.args.made.now turns.reopened) in
    let sent : c.level.result.sent ≡ sent_by es all p (length es) =
    c.level.ensures.sent es all c.requires.moves ∙ ap (λ l. length (sends es l p)) (sym whole) in
    let received : c.level.result.received ≡ received_by es all p (length es) =
    c.level.ensures.received es all c.requires.moves ∙ ap (λ l. length (receives es l p)) (sym whole) in
    let counts = counts_words (sent_by es all p (length es)) (received_by es all p (length es)) in
    let full = fullest es all p (length es) in
    let is-full : c.in_ok-fullest_on.field-0 ≡ full =
    c.in_ok-fullest_on.ensures
    ∙ ap (λ l. fullest_of l (steps_of (things_on c.args.moves.now.received p))) (sent-steps es all c.args.moves.now c.requires.moves p)
    ∙ ap (fullest_of (moved_by_steps (sends es all p))) (received-steps es all c.args.moves.now c.requires.moves p)
    ∙ fullest-is es all p (length es) c.requires.telling.in_order whole in
    let made = by_words (codes " made by P") c.args.made.now in
    let before = codes "port " ++ decimal p.0 in
    let at-number = two out c.put_number.new.out.items (codes "port ") (decimal p.0) (rw c.into.ensures at c.in_ok-put_number.ensures) in
    let at-cap = one-more out c.put_number.new.out.items c.put_cap.new.out.items before cap at-number
    (c.in_ok-put_cap.ensures ∙ ap (λ place. c.put_number.new.out.items ++ caps place) c.opened_at.ensures
    ∙ ap (λ (t : Turns). c.put_number.new.out.items ++ caps (opened_at c.args.made.now t.reopened)) are-turns) in
    let at-counts = one-more out c.put_cap.new.out.items c.put_counts.new.out.items (before ++ cap) counts at-cap
    (c.in_ok-put_counts.ensures ∙ ap (λ n. c.put_cap.new.out.items ++ counts_words n c.level.result.received) sent
    ∙ ap (λ n. c.put_cap.new.out.items ++ counts_words (sent_by es all p (length es)) n) received) in
    let at-most = one-more out c.put_counts.new.out.items c.put_most.new.out.items (before ++ cap ++ counts) (most_words full) at-counts
    (c.in_ok-put_most.ensures ∙ ap (λ f. c.put_counts.new.out.items ++ most_words f) is-full) in
    let at-made = one-more out c.put_most.new.out.items c.put_by.new.out.items (before ++ cap ++ counts ++ most_words full) made at-most
    c.in_ok-put_by.ensures in
    let again = turn_words (codes " reopened by P") turns.reopened in
    let at-again = one-more out c.put_by.new.out.items c.put_turn.new.out.items (before ++ cap ++ counts ++ most_words full ++ made) again at-made
    (c.in_ok-put_turn.ensures
    ∙ ap (λ (t : Turns). c.put_by.new.out.items ++ turn_words (codes " reopened by P") t.reopened) are-turns) in
    let closed = turn_words (codes " closed by P") turns.closed in
    let at-closed = one-more out c.put_turn.new.out.items c.put_turn-2.new.out.items (before ++ cap ++ counts ++ most_words full ++ made ++ again)
    closed at-again
    (c.in_ok-put_turn-2.ensures
    ∙ ap (λ (t : Turns). c.put_turn.new.out.items ++ turn_words (codes " closed by P") t.closed) are-turns) in
    one-more out c.put_turn-2.new.out.items c.extend_from_slice.new.self.items
    (before ++ cap ++ counts ++ most_words full ++ made ++ again ++ closed) (codes "\n") at-closed c.in_ok-extend_from_slice.ensures.items
