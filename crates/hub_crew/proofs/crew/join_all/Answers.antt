use Rattle.std.proofs.Common.{◌≡◌, ◌∙◌, ◌++◌, [], ◌∷◌, false, true, List, length, map, sym, arith, rules, subst, append-nil}
use Rattle.hub_base.proofs.Loops.{map_snoc, all_snoc, one_further, all_next}
use Rattle.hub_crew.proofs.crew.join_all.Goals as goal

pub loop-handle-preserved-in-Some-join : goal.loop-handle-preserved-in-Some-join
loop-handle-preserved-in-Some-join g c =
    let i = c.loop-handle.invariant in
    let more = c.push_reserved.ensures in
    let step = c.in-Some.ensures.steps in
    let kept = c.in-Some-join.ensures in
    let m = c.in-Some-join.member in
    let task : c.in-Some.handle.promise.task ≡ c.args.task =
    all_next c.loop-handle.yielded c.loop-handle.handle-iterator.rest.items c.next.new.self.rest.items c.args.handles.items c.in-Some.handle
    (λ h. h.promise.task ≡ c.args.task) step.0 i.split c.requires.tasks in record {
      begun = i.begun;
      pids = λ all. map_snoc c.loop-handle.done.items c.push_reserved.new.self.items c.loop-handle.yielded m c.in-Some.handle (λ m. g.S.HasPid.pid_of m.seat)
          (λ h. h.promise.pid) more.items (i.pids all) kept.0;
      ends = all_snoc c.loop-handle.done.items c.push_reserved.new.self.items m (λ m. g.T.Task.ends c.args.task m.seat m.report) more.items i.ends
          (subst (λ t. g.T.Task.ends t m.seat m.report) task kept.1);
      split = one_further c.loop-handle.yielded c.loop-handle.handle-iterator.rest.items c.next.new.self.rest.items c.args.handles.items
          c.in-Some.handle step.0 i.split;
      room = omega (arith, i.room, more.len, more.capacity, step);
    }

never : {P : Type 0} → false ≡ true → P
never is = cc

pub loop-handle-preserved : goal.loop-handle-preserved
loop-handle-preserved g c =
    let i = c.loop-handle.invariant in
    let step = c.in-Some.ensures.steps in record {
      begun = never;
      pids = never;
      ends = i.ends;
      split = one_further c.loop-handle.yielded c.loop-handle.handle-iterator.rest.items c.next.new.self.rest.items c.args.handles.items
          c.in-Some.handle step.0 i.split;
      room = omega (arith, i.room, step);
    }

all_yielded : {A : Type 0} (done rest all : List A) → done ++ rest ≡ all → length rest ≡ 0 → done ≡ all
all_yielded done [] all is none = sym (append-nil done) ∙ is
all_yielded done (x ∷ rest) all is none = absurd (omega arith)

pub returns-then-all-clause-pids : goal.returns-then-all-clause-pids
returns-then-all-clause-pids g c =
    let i = c.loop-handle.invariant in
    let rest = c.loop-handle.handle-iterator.rest in
    let none : length rest.items ≡ 0 = search (rules, rest.ok, c.in-None.ensures.steps.0) in
    subst (λ hs. map (λ m. g.S.HasPid.pid_of m.seat) c.loop-handle.done.items ≡ map (λ h. h.promise.pid) hs)
    (all_yielded c.loop-handle.yielded rest.items c.args.handles.items i.split none) (i.pids c.if-all.true)
