-- What the operations write: the state after each, as a function of the state before it.
-- Assumes nothing.
use Rattle.std.specs.Prelude.{ℕ, cond, None, Some, nat_lt, slice_set}
use Rattle.quantities.specs.Ids.{TaskId, QueueId}
use Rattle.quantities.specs.declared.ids.Task.{Task}
use Rattle.quantities.specs.declared.ids.Queue.{Queue}
use Rattle.queues.specs.declared.packed.Packed.{Packed}
use Rattle.queues.specs.declared.fifo.Link.{Link}
use Rattle.queues.specs.declared.fifo.Ends.{Ends}
use Rattle.queues.specs.declared.fifo.Queues.{Queues}
use Rattle.queues.specs.Rings.{link_of, ends_of, packed}

abbrev pub set_link : ℕ → Link → Queues → Queues
set_link i l s = record { links = slice_set s.links i l; ends = s.ends }

abbrev pub set_ends : ℕ → Ends → Queues → Queues
set_ends q e s = record { links = s.links; ends = slice_set s.ends q e }

unfoldable pub set_after : (q a : ℕ) → Packed Task → Queues → Queues
set_after q a b s =
    cond (nat_lt a 64) (set_link a (record { next = b; prev = (link_of s a).prev; at = (link_of s a).at }) s) (set_ends q (record { head = b; tail = (ends_of s q).tail }) s)

unfoldable pub set_before : (q b : ℕ) → Packed Task → Queues → Queues
set_before q b a s =
    cond (nat_lt b 64) (set_link b (record { next = (link_of s b).next; prev = a; at = (link_of s b).at }) s) (set_ends q (record { head = (ends_of s q).head; tail = a }) s)

unfoldable pub set_place : ℕ → Packed Queue → Queues → Queues
set_place i q s = set_link i (record { next = (link_of s i).next; prev = (link_of s i).prev; at = q }) s

-- b follows a in the ring of q
unfoldable pub joined : ℕ → (a b : Packed Task) → Queues → Queues
joined q a b s = set_before q b.number a (set_after q a.number b s)

-- i becomes the last of q
unfoldable pub appended : QueueId → TaskId → Queues → Queues
appended q i s = set_place i.index (packed (Some q)) (joined q.index (packed (Some i)) (packed None) (joined q.index (ends_of s q.index).tail (packed (Some i)) s))

-- i leaves q
unfoldable pub unlinked : (q i : ℕ) → Queues → Queues
unlinked q i s = set_place i (packed None) (joined q (link_of s i).prev (link_of s i).next s)
