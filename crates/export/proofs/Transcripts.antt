-- An account on its way: nothing is written yet, some lines more, and what stands in the room when the script is over.
use Rattle.std.proofs.Common.{◌≡◌, ℕ, ◌≤◌, List, ◌++◌, length, take, drop, sym, refl, ap, ◌∙◌, subst, append_assoc, append-nil, arith, take_at, drop_at}
use Rattle.std.proofs.lemmas.List.{drop-drop}
use Rattle.player.specs.Evening.{Allowed}
use Rattle.player.specs.Standing.{Played}
use Rattle.export.specs.declared.accounted.Accounted.{Accounted}
use Rattle.export.specs.Room.{Grew}
use Rattle.export.specs.Transcribed.{origin, Took, Transcribed}

-- What is made from a room has taken no more than that.
pub took-none : (t : Accounted) → t.len ≡ 0 → Took t (origin t.room.ghost_name t.room.now)
took-none t e =
    record {
      before = t.room.now;
      written = subst (λ (n : ℕ). origin t.room.ghost_name t.room.now ≡ origin t.room.ghost_name t.room.now ++ take n t.room.now) (sym e) (sym (append-nil (origin t.room.ghost_name t.room.now)));
      fits = omega arith;
      rest = refl;
      size = refl;
    }

-- Lines are written after what was, and behind them nothing changes.
pub took_more : (t u : Accounted) (all lines : List ℕ) → Took t all → u.room.ghost_name ≡ t.room.ghost_name → Grew t.room.now u.room.now t.len lines u.len → Took u (all ++ lines)
took_more t u all lines took lender grew =
    record {
      before = took.before;
      written = ap (λ (ys : List ℕ). ys ++ lines) took.written ∙ append_assoc (origin t.room.ghost_name took.before) (take t.len t.room.now) lines
          ∙ ap (λ (ys : List ℕ). origin t.room.ghost_name took.before ++ ys) (sym grew.wrote) ∙ ap (λ (n : ℕ). origin n took.before ++ take u.len u.room.now) (sym lender);
      fits = let s = took.size in let f = grew.fits in omega arith;
      rest = subst (λ (n : ℕ). drop n u.room.now ≡ drop n took.before) (sym grew.ends)
          (subst (λ (n : ℕ). drop n u.room.now ≡ drop n t.room.now) grew.ends grew.rest ∙ sym (drop-drop (length lines) t.len t.room.now) ∙ ap (drop (length lines)) took.rest
          ∙ drop-drop (length lines) t.len took.before);
      size = grew.size ∙ took.size;
    }

-- Who lent the room, what stood in it and what was written can be told from all that was taken.
record Same (m n : ℕ) (xs ys us vs : List ℕ) : Type 0 where
  lender : m ≡ n
  room : xs ≡ ys
  text : us ≡ vs

same-origin : (m n : ℕ) (xs ys us vs : List ℕ) → origin m xs ++ us ≡ origin n ys ++ vs → Same m n xs ys us vs
same-origin m n xs ys us vs e =
    let long : length xs ≡ length ys = cc in
    let all : xs ++ us ≡ ys ++ vs = cc in
    record {
      lender = cc;
      room = sym (take_at xs us (length xs) refl) ∙ ap (take (length xs)) all ∙ take_at ys vs (length xs) (sym long);
      text = sym (drop_at xs us (length xs) refl) ∙ ap (drop (length xs)) all ∙ drop_at ys vs (length xs) (sym long);
    }

-- The script is over: the room is the one that was lent, and what stands in it was transcribed.
pub record Ended (t u : Accounted) (script : List ℕ) : Type 0 where
  pub lender : t.room.ghost_name ≡ u.room.ghost_name
  pub transcribed : Transcribed script t.room.now u.room.now u.len

pub ended : (t u : Accounted) (script : List ℕ) → Played Took u (origin t.room.ghost_name t.room.now) script → Ended t u script
ended t u script played =
    let took = played.taken in
    let same = same-origin t.room.ghost_name u.room.ghost_name t.room.now took.before played.text (take u.len u.room.now) took.written in
    record {
      lender = same.lender;
      transcribed = record {
        allowed = subst (Allowed script) same.text played.allowed;
        fits = subst (λ (xs : List ℕ). u.len ≤ length xs) (sym same.room) took.fits;
        rest = took.rest ∙ ap (drop u.len) (sym same.room);
        len = took.size ∙ ap length (sym same.room);
      };
    }

-- The lender has it back as it was left.
pub given_back : (script before after : List ℕ) {end : List ℕ} (written : ℕ) → Transcribed script before after written → end ≡ after → Transcribed script before end written
given_back script before after written so e = subst (λ (xs : List ℕ). Transcribed script before xs written) (sym e) so
