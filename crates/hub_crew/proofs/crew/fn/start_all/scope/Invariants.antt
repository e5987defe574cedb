use Rattle.std.proofs.Common.{◌≡◌, ◌≤◌, ◌+◌, ◌++◌, All, map, vec_len, vec_capacity}
use Rattle.hub_crew.proofs.crew.fn.start_all.scope.Given as goal

abbrev pub invariant-loop-seat : goal.invariant-loop-seat
invariant-loop-seat g l = record {
  pids : map (λ h. h.promise.pid) l.handles.items ≡ map g.S.HasPid.pid_of l.yielded;
  tasks : All (λ h. h.promise.task ≡ l.task) l.handles.items;
  split : l.yielded ++ l.seat-iterator.rest.items ≡ l.initial.seat-iterator.rest.items;
  count : vec_len l.handles + l.seat-iterator.rest.len ≡ l.initial.seat-iterator.rest.len;
  room : l.initial.seat-iterator.rest.len ≤ vec_capacity l.handles;
}
