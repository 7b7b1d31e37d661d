-- After k steps, whoever runs for the task is reached from here in the steps that are left.
use Rattle.std.proofs.Common.{◌≡◌, ◌-◌}
use Rattle.sched.specs.House.{House, runner}
use Rattle.sched.specs.Stores.{Locked}
use Rattle.sched.proofs.locks.Locks.runner.Given as goal

abbrev pub invariant-loop-step : goal.invariant-loop-step
invariant-loop-step l = (h : House) → Locked l.self h → runner (64 - l.step) h l.at.index ≡ runner 64 h l.initial.at.index
