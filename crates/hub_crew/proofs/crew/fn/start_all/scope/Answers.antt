use Rattle.std.proofs.Common.{◌≡◌, arith}
use Rattle.hub_base.proofs.Loops.{map_snoc, all_snoc, one_further}
use Rattle.hub_crew.proofs.crew.fn.start_all.scope.Goals as goal

pub loop-seat-preserved : goal.loop-seat-preserved
loop-seat-preserved g c =
    let i = c.loop-seat.invariant in
    let more = c.push_reserved.ensures in
    let started = c.in-Some-spawn.ensures in
    let step = c.in-Some.ensures.steps in record {
      pids = map_snoc c.loop-seat.handles.items c.push_reserved.new.self.items c.loop-seat.yielded c.in-Some-spawn.handle c.in-Some.seat
          (λ h. h.promise.pid) g.S.HasPid.pid_of more.items i.pids started.0;
      tasks = all_snoc c.loop-seat.handles.items c.push_reserved.new.self.items c.in-Some-spawn.handle
          (λ h. h.promise.task ≡ c.captures.task) more.items i.tasks started.1;
      split = one_further c.loop-seat.yielded c.loop-seat.seat-iterator.rest.items c.next.new.self.rest.items
          c.into_iter-seat-iterator.result.rest.items c.in-Some.seat step.0 i.split;
      count = omega (arith, i.count, more.len, step);
      room = omega (arith, i.room, more.capacity);
    }
