use Rattle.std.proofs.Common.{◌≡◌, ◌≤◌, ◌+◌, ◌++◌, true, All, map, vec_len, vec_capacity}
use Rattle.hub_crew.proofs.crew.join_all.Given as goal

abbrev pub invariant-loop-handle : goal.invariant-loop-handle
invariant-loop-handle g l = record {
  begun : l.all ≡ true → l.fn.started ≡ true;
  pids : l.all ≡ true → map (λ m. g.S.HasPid.pid_of m.seat) l.done.items ≡ map (λ h. h.promise.pid) l.yielded;
  ends : All (λ m. g.T.Task.ends l.fn.task m.seat m.report) l.done.items;
  split : l.yielded ++ l.handle-iterator.rest.items ≡ l.fn.handles.items;
  room : vec_len l.done + l.handle-iterator.rest.len ≤ vec_capacity l.done;
}
