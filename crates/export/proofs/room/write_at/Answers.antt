-- One byte more stands after them.
use Rattle.std.proofs.Common.{◌≡◌, ℕ, ◌+◌, ◌<◌, List, [], ◌∷◌, ◌++◌, length, get_or, take, drop, set, sym, refl, ap, ◌∙◌, subst, append_assoc, append-nil, add_assoc, arith}
use Rattle.std.proofs.lemmas.List.{take_more, take_more_set, take_all, drop-set-lt, drop-drop}
use Rattle.export.proofs.room.write_at.Goals as goal

more : (room old bytes : List ℕ) (at k : ℕ) → at + k < length room → k < length bytes → take (at + k) room ≡ old ++ take k bytes → take (at + (k + 1)) (set room (at + k) (get_or bytes k 0)) ≡ old ++ take (k + 1) bytes
more room old bytes at k l m e =
    ap (λ n. take n (set room (at + k) (get_or bytes k 0))) (sym (add_assoc at k 1))
    ∙ take_more_set room (at + k) (get_or bytes k 0) l
    ∙ ap (λ s. s ++ (get_or bytes k 0 ∷ [])) e
    ∙ append_assoc old (take k bytes) (get_or bytes k 0 ∷ [])
    ∙ ap (λ s. old ++ s) (sym (take_more bytes k 0 m))

less : (room before : List ℕ) (at k b : ℕ) → drop (at + k) room ≡ drop (at + k) before → drop (at + (k + 1)) (set room (at + k) b) ≡ drop (at + (k + 1)) before
less room before at k b e =
    drop-set-lt (at + (k + 1)) room (at + k) b (omega arith)
    ∙ ap (λ n. drop n room) (sym (add_assoc at k 1)) ∙ sym (drop-drop 1 (at + k) room) ∙ ap (drop 1) e ∙ drop-drop 1 (at + k) before ∙ ap (λ n. drop n before) (add_assoc at k 1)

pub loop-k-init : goal.loop-k-init
loop-k-init c =
    let e : c.args.at + 0 ≡ c.args.at = omega arith in
    (ap (λ n. take n c.args.room.now) e ∙ sym (append-nil (take c.args.at c.args.room.now)), refl)

pub loop-k-preserved : goal.loop-k-preserved
loop-k-preserved c =
    let m : c.loop-k.k < length c.args.bytes.now = omega arith in
    let l : c.args.at + c.loop-k.k < length c.loop-k.room = omega arith in (
      more c.loop-k.room (take c.args.at c.args.room.now) c.args.bytes.now c.args.at c.loop-k.k l m c.loop-k.invariant.0,
      less c.loop-k.room c.args.room.now c.args.at c.loop-k.k (get_or c.args.bytes.now c.loop-k.k 0) c.loop-k.invariant.1,
    )

pub returns : goal.returns
returns c =
    let e : c.loop-k.k ≡ length c.args.bytes.now = omega arith in
    record {
      wrote = ap (λ n. take (c.args.at + n) c.loop-k.room) (sym e) ∙ c.loop-k.invariant.0 ∙ ap (λ s. take c.args.at c.args.room.now ++ s) (take_all c.loop-k.k c.args.bytes.now (omega arith));
      rest = subst (λ (n : ℕ). drop (c.args.at + n) c.loop-k.room ≡ drop (c.args.at + n) c.args.room.now) e c.loop-k.invariant.1;
    }
