-- Who is taken from the front of the row is its first.
use Rattle.std.proofs.Common.{set, None, ap, ◌∙◌, subst}
use Rattle.queues.specs.Members.{rest}
use Rattle.queues.specs.Rings as queue
use Rattle.sched.specs.House.{put, first_of}
use Rattle.sched.specs.Stores.{owner_of}
use Rattle.sched.proofs.Arrays.{reads-written}
use Rattle.sched.proofs.Waiting.{first-told, rest-told}
use Rattle.sched.proofs.locks.Locks.pass_on.Goals as goal

pub returns : goal.returns
returns c =
    let m = c.args.m.index in
    let e = c.from.ensures in
    record {
      owners = λ f o k r. reads-written owner_of None m c.pop_front.result (first_of (f m)) c.args.m.within (ap (λ n. set c.args.self.now.owners n c.pop_front.result) c.index.ensures.value) (first-told _ _ (c.pop_front.ensures.value f k) ∙ ap (λ n. first_of (f n)) e) r;
      rows = λ f k. subst (λ l. queue.Holds c.pop_front.new.self (put m l f)) (rest-told (f m)) (subst (λ n. queue.Holds c.pop_front.new.self (put n (rest (f n)) f)) e (c.pop_front.ensures.after f k));
    }
