-- A call on the lists is the call of the meaning.
use Rattle.std.proofs.Common.{◌≡◌, ℕ, ◌%◌, Bool, true, false, List, [], ◌∷◌, ◌++◌, length, refl, ap, ◌∙◌, sym, Option, Some, None}
use Rattle.std.specs.Prelude.{slice_get}
use Rattle.std.specs.List.{list_any}
use Rattle.std.specs.Option.{option_map_or}
use Rattle.std.proofs.lemmas.List.{map-append}
use Rattle.hub_base.specs.declared.value.Pid.{Pid}
use Rattle.hub_base.specs.declared.case.Case.{Case}
use Rattle.hub_base.specs.declared.case.Case.TheVariants.{Send, Recv}
use Rattle.hub_base.specs.State.{State, Channel, channel_at}
use Rattle.hub_base.specs.Ready.{port_of, can_proceed, send_can, recv_can, ready}
use Rattle.hub_base.specs.Steps.{Firing, fires, proceeds, chooses, waits, calls, is_unmade, fired}
use Rattle.hub_laws.specs.Sound.{IsSound}
use Rattle.hub_laws.proofs.Ready.{chosen}
use Rattle.hub_parts.specs.Records.{Ticketed}
use Rattle.hub_parts.specs.Lists.{open_calls, ticketed}
use Rattle.hub_core.specs.Records.{MachineLists}
use Rattle.hub_core.specs.ListFirings.{ListFiring, fire_on}
use Rattle.hub_core.specs.ListSteps.{tell_firing, waits_on, chooses_on, calls_on, after_call}
use Rattle.hub_core.specs.Follows.{Matches}
use Rattle.hub_core.specs.Agrees.{FiresAs, StepsAs}
use Rattle.hub_core.proofs.Firings.{send-as, recv-as}
use Rattle.hub_core.proofs.Readiness.{ready_on-as}

told : (s : State) (m : MachineLists) (pid : Pid) (index : ℕ) (f : Firing) (g : ListFiring) → FiresAs f m g
    → StepsAs (proceeds s pid index (Some f)) (after_call m (tell_firing pid index g))
told s m pid index f g same = record {
  events = ap (λ es. fired pid index g.outcome ∷ es) same.ended ∙ ap (λ o. fired pid index o ∷ f.ended) same.outcome;
  state = same.state;
}

no_channel : (test : Channel → Bool) → option_map_or test None false ≡ true → ⊥
no_channel test e = cc

-- a case that can proceed fires
fires_by : (s : State) (m : MachineLists) (pid : Pid) (index : ℕ) (k : Case) (o : Option Channel) → IsSound s → Matches s m → o ≡ channel_at s (port_of k)
    → can_proceed s k ≡ true → StepsAs (proceeds s pid index (fires s k o)) (after_call m (tell_firing pid index (fire_on m.board m.counts k)))
fires_by s m pid index (Send p v) None sound h is can =
    absurd (no_channel (send_can s p) (ap (λ (o : Option Channel). option_map_or (send_can s p) o false) is ∙ can))
fires_by s m pid index (Recv p) None sound h is can =
    absurd (no_channel (recv_can s p) (ap (λ (o : Option Channel). option_map_or (recv_can s p) o false) is ∙ can))
fires_by s m pid index (Send p v) (Some c) sound h is can = told s m pid index _ _ (send-as s m p v c sound h (sym is))
fires_by s m pid index (Recv p) (Some c) sound h is can = told s m pid index _ _ (recv-as s m p c sound h (sym is))

parked-calls : (s : State) (m : MachineLists) (pid : Pid) (ticket : ℕ) (cases : List Case) → Matches s m
    → open_calls (m.board.waiting ++ ticketed pid ticket cases ∷ []) ≡ s.parked ++ record { pid = pid; cases = cases } ∷ []
parked-calls s m pid ticket cases h = map-append (λ (w : Ticketed). w.call) m.board.waiting (ticketed pid ticket cases ∷ [])
    ∙ ap (λ calls. calls ++ record { pid = pid; cases = cases } ∷ []) h.calls

waits_on-as : (s : State) (m : MachineLists) (pid : Pid) (cases : List Case) (default : Bool) → Matches s m
    → StepsAs (waits s pid cases default) (after_call m (waits_on m.board m.counts m.steps pid cases default))
waits_on-as s m pid cases true h = record {
  events = refl;
  state = record { edition = h.edition; procs = h.procs; calls = h.calls; ports = h.ports; counts = h.counts; gone = h.gone };
}
waits_on-as s m pid cases false h = record {
  events = refl;
  state = record { edition = h.edition; procs = h.procs; calls = parked-calls s m pid m.steps cases h; ports = h.ports; counts = h.counts; gone = h.gone };
}

-- o: the case that the choice word names among those that can proceed
chooses_on-as : (s : State) (m : MachineLists) (pid : Pid) (cases : List Case) (default : Bool) (k : ℕ) (o : Option (ℕ × Case))
    → IsSound s → Matches s m → o ≡ slice_get (ready s cases) k
    → StepsAs (chooses s pid cases default o) (after_call m (chooses_on m.board m.counts m.steps pid cases default o))
chooses_on-as s m pid cases default k None sound h is = waits_on-as s m pid cases default h
chooses_on-as s m pid cases default k (Some x) sound h is =
    fires_by s m pid x.0 x.1 (channel_at s (port_of x.1)) sound h refl (chosen (can_proceed s) 0 k cases x (sym is)).ready

pub calls_on-as : (s : State) (m : MachineLists) (pid : Pid) (cases : List Case) (default : Bool) (word : ℕ)
    → IsSound s → Matches s m → list_any (λ k. is_unmade s (port_of k)) cases ≡ false
    → StepsAs (calls s pid cases default word) (after_call m (calls_on m.board m.counts m.steps pid cases default word))
calls_on-as s m pid cases default word sound h named =
    rw (ready_on-as s m 0 cases h named)
    (chooses_on-as s m pid cases default (word % length (ready s cases)) (slice_get (ready s cases) (word % length (ready s cases))) sound h refl)
