-- A step of a hub that never ends, as a step of one hub that was never cut.
use Rattle.std.proofs.Common.{◌≡◌, ◌∙◌, List, ◌∷◌, ap, refl, sym, subst, arith, None}
use Rattle.hub_base.specs.Entry.{Entry}
use Rattle.hub_base.specs.Runs.{moves, state}
use Rattle.hub_base.specs.Steps.{refusal}
use Rattle.hub_base.specs.declared.event.Event.{Event}
use Rattle.hub_base.specs.declared.head.Head.{Head}
use Rattle.hub_chapters.specs.Chapters.{Chapters, history}
use Rattle.hub_cut.specs.Recorder.{GoesOn, RecordsStep, RecorderView, Records, begins, head_of_all, with_next}
use Rattle.hub_live.specs.Answers.{AnswersView, Heard}
use Rattle.hub_live.specs.Locked.{AreReplies}
use Rattle.hub_served.specs.Endless.{EndlessKeeps, EndlessView, Explains, ServesMade, ServesNext, endless_view}

abbrev endless : RecorderView → AnswersView → EndlessView
endless r a = endless_view r a.waiting a.last a.ended

-- a step was recorded, and its events were heard
module _ (old : RecorderView) (a : AnswersView) (e : Entry) (new : RecorderView) (told : List Event) (b : AnswersView)
    (s : RecordsStep old e new told)
    (hears : (h : Head) (es : List Entry) → refusal (state h es) e.pid ≡ None → told ≡ (moves (state h es) e).events → Heard a h es e b) where
  -- as the step of a hub whose journal is the whole history
  heard : (chapters : Chapters) → Records chapters old → Heard a (head_of_all old) (history chapters) e b
  heard chapters records = let goes = s.goes_on chapters records in hears (head_of_all old) (history chapters) goes.admitted goes.events

  answered : (chapters : Chapters) (records : Records chapters old) → told ≡ b.last ∷ (heard chapters records).ended
  answered chapters records = (s.goes_on chapters records).events ∙ (heard chapters records).told

  serves_next : (chapters : Chapters) (ended : List Event) → told ≡ b.last ∷ ended → Explains chapters (endless old a)
      → ServesNext chapters (endless old a) e (endless new b) b.last ended
  serves_next chapters ended is so =
      let goes = s.goes_on chapters so.records in
      let k = heard chapters so.records in
      record {
        goes_on = subst (GoesOn old chapters e new) is goes;
        reply = k.reply;
        explains = record {
          records = goes.records;
          replies =
              subst (λ (h : Head). AreReplies h (history (with_next (begins old e.step) chapters e)) b.waiting) (sym (ap (λ t. t.head) s.terms))
              (subst (λ (es : List Entry). AreReplies (head_of_all old) es b.waiting) (sym goes.history) (k.replies so.replies));
        };
      }

  pub serves_made : EndlessKeeps (endless old a) → ServesMade (endless old a) e (endless new b) b.last
  serves_made keeps =
      let (chapters, so) = keeps.explained in
      let k = heard chapters so.records in
      record {
        ended = k.ended;
        next = λ others explains. serves_next others k.ended (answered chapters so.records) explains;
        answers = λ q lt. k.answers q (omega (arith, keeps.places, lt));
        last = refl;
        pids = k.pids;
        terms = s.terms;
        keep = s.keep;
        early = s.early;
      }

  pub keeps_then : EndlessKeeps (endless old a) → EndlessKeeps (endless new b)
  keeps_then keeps =
      let (chapters, so) = keeps.explained in
      let k = heard chapters so.records in
      record {
        explained = (with_next (begins old e.step) chapters e, (serves_next chapters k.ended (answered chapters so.records) so).explains);
        places = k.places ∙ keeps.places;
      }
