-- A buffer that is filled piece by piece.
use Prim.Native.Nat.{ℕ, suc, ◌+◌, ◌-◌, ◌≤◌, ◌<◌}
use mathlib.Core.Path.{◌≡◌, refl, sym, ap, ap₂, ◌∙◌, subst}
use mathlib.Core.Bool.{Bool, true, false}
use mathlib.Core.List.{List, [], ◌∷◌, ◌++◌, append_assoc, append-nil}
use native.Mathlib.Nat.{zero-add}
use native.Mathlib.Omega.{arith}
use borrow.Author.Tests.{leb-true, leb-false, le-leb, lt-leb}
use lib.Dec.{leb}
use lib.ListN.{length, set, take, drop, length-append, drop_of_length-le}
use lib.Seq.{set-set, set_comm, sets, length-sets, sets-eq, drop-drop, take-add, take-length, length-take-le, take-append_seam, drop-append-add}
use borrow.Rule.Slice.PartMut.{put_mid}
use Rattle.text.specs.Words.{part_of}
use Rattle.text.specs.Filled.{filled, Stored, Begins, has_room, place_behind, placed}
use Rattle.text.proofs.Words.{part_length, part_two}

pub filled_length : (at : ℕ) (text buffer : List ℕ) → length (filled at text buffer) ≡ length buffer
unfolding filled
filled_length at text buffer = length-sets buffer at text

pub filled_nothing : (at : ℕ) (buffer : List ℕ) → buffer ≡ filled at [] buffer
unfolding filled
filled_nothing at buffer = refl

-- a piece behind a piece
filled_more : {k : ℕ} (at : ℕ) (a b buffer : List ℕ) → at + length a ≡ k → filled k b (filled at a buffer) ≡ filled at (a ++ b) buffer
unfolding filled
filled_more at a b buffer e = ap (λ k. sets (sets buffer at a) k b) (sym e) ∙ go at a buffer
  where
    go : (at : ℕ) (a buffer : List ℕ) → sets (sets buffer at a) (at + length a) b ≡ sets buffer at (a ++ b)
    go at [] buffer = let e : at + 0 ≡ at = omega arith in ap (λ k. sets buffer k b) e
    go at (x ∷ a) buffer =
        let e : at + suc (length a) ≡ suc at + length a = omega arith in
        ap (λ k. sets (sets (set buffer at x) (suc at) a) k b) e ∙ go (suc at) a (set buffer at x)

-- the same of what two calls leave
pub filled_then :
    {k : ℕ} (at : ℕ) (a b before : List ℕ) {between after : List ℕ} → between ≡ filled at a before → at + length a ≡ k → after ≡ filled k b between →
    after ≡ filled at (a ++ b) before
filled_then {k} at a b before e h f = f ∙ ap (filled k b) e ∙ filled_more at a b before h

-- a byte behind a piece
pub filled_byte : {k : ℕ} (at : ℕ) (a : List ℕ) (byte : ℕ) (buffer : List ℕ) → at + length a ≡ k → set (filled at a buffer) k byte ≡ filled at (a ++ byte ∷ []) buffer
unfolding filled
filled_byte at a byte buffer e = filled_more at a (byte ∷ []) buffer e

-- a byte before a piece
set_before : (k : ℕ) (a buffer : List ℕ) (at byte : ℕ) → at < k → set (sets buffer k a) at byte ≡ sets (set buffer at byte) k a
set_before k [] buffer at byte h = refl
set_before k (x ∷ a) buffer at byte h =
    set_before (suc k) a (set buffer k x) at byte (omega arith) ∙ ap (λ l. sets l (suc k) a) (set_comm buffer k at x byte (λ e. omega (arith, e)))

-- a byte right in front of a piece
pub filled_after : (at : ℕ) (byte : ℕ) (a buffer : List ℕ) → set (filled (suc at) a buffer) at byte ≡ filled at (byte ∷ a) buffer
unfolding filled
filled_after at byte a buffer = set_before (suc at) a buffer at byte (omega arith)

-- a piece over a piece that is no longer
filled_over_shorter : (at : ℕ) (a b buffer : List ℕ) → length a ≤ length b → filled at b (filled at a buffer) ≡ filled at b buffer
unfolding filled
filled_over_shorter at [] b buffer h = refl
filled_over_shorter at (x ∷ a) [] buffer h = absurd (omega arith)
filled_over_shorter at (x ∷ a) (y ∷ b) buffer h =
    ap (λ l. sets l (suc at) b) (set_before (suc at) a (set buffer at x) at y (omega arith) ∙ ap (λ l. sets l (suc at) a) (set-set buffer at x y))
    ∙ filled_over_shorter (suc at) a b (set buffer at y) (omega arith)

-- a part of a text over the end of its front
pub filled_front_part :
    (at : ℕ) (text : List ℕ) (k from size : ℕ) (before : List ℕ) {n : ℕ} {between after : List ℕ} → from ≤ k → k ≤ from + size → from + size ≡ n →
    n ≤ length text → between ≡ filled at (take k text) before → after ≡ filled (at + from) (part_of from size text) between →
    after ≡ filled at (take n text) before
filled_front_part at text k from size before low high end within e f =
    let front = take from text in
    let over = part_of from (k - from) text in
    let more = part_of from size text in
    let s : from + (k - from) ≡ k = omega arith in
    let place : at + length front ≡ at + from = ap (λ n. at + n) (length-take-le from text (omega arith)) in
    let split : take k text ≡ front ++ over = ap (λ k. take k text) (sym s) ∙ take-add from (k - from) text in
    f ∙ ap (filled (at + from) more) (e ∙ ap (λ l. filled at l before) split ∙ sym (filled_more at front over before place))
    ∙ filled_over_shorter (at + from) over more (filled at front before) (omega (arith, part_length from (k - from) text (omega arith), part_length from size text (omega arith)))
    ∙ filled_more at front more before place
    ∙ ap (λ l. filled at l before) (sym (take-add from size text) ∙ ap (λ n. take n text) end)

-- the last part of a text over the end of what is before it
pub filled_last_part :
    (at : ℕ) (text : List ℕ) (k size : ℕ) (before : List ℕ) {between after : List ℕ} → size ≤ length text → length text - size ≤ k → k ≤ length text →
    between ≡ filled at (take k text) before → after ≡ filled (at + (length text - size)) (part_of (length text - size) size text) between →
    after ≡ filled at text before
filled_last_part at text k size before most low high e f =
    let s : length text - size + size ≡ length text = omega arith in
    filled_front_part at text k (length text - size) size before low (omega arith) s (omega arith) e f ∙ ap (λ t. filled at t before) (take-length text)

-- whether a piece has room, without a sum
pub room_left : (length at count : ℕ) → at ≤ length → leb count (length - at) ≡ leb (at + count) length
room_left length at count h = go (leb count (length - at)) refl
  where
    go : (room : Bool) → leb count (length - at) ≡ room → room ≡ leb (at + count) length
    go true e = sym (le-leb (at + count) length (omega (arith, leb-true count (length - at) e)))
    go false e = sym (lt-leb (at + count) length (omega (arith, leb-false count (length - at) e)))

-- what putting a piece answers and leaves, where there is room for it and where there is not
abbrev pub Puts : (at : ℕ) (text before after : List ℕ) (r : ℕ) → Type 0
Puts at text before after r = (r ≡ place_behind at text before) × (after ≡ placed at text before)

module _ (at : ℕ) (text before : List ℕ) {count : ℕ} (same : count ≡ length text) {room : Bool} (has : room ≡ leb (at + count) (length before)) where
  room_is : room ≡ has_room at text before
  room_is = has ∙ ap (λ k. leb (at + k) (length before)) same

  pub room_le : room ≡ true → at + count ≤ length before
  room_le e = leb-true (at + count) (length before) (sym has ∙ e)

  pub not_put : room ≡ false → Puts at text before before at
  not_put e = let h = sym room_is ∙ e in (rw h, rw h)

  pub all_put : {after : List ℕ} → room ≡ true → after ≡ filled at text before → Puts at text before after (at + count)
  all_put e f = let h = sym room_is ∙ e in (rw h (ap (λ k. at + k) same), rw h f)

-- a piece that is known to have room, put into a buffer
pub put_stored :
    (at : ℕ) (text before : List ℕ) {after : List ℕ} {r : ℕ} → at + length text ≤ length before → Puts at text before after r → Stored at text before after r
put_stored at text before h p = let e = le-leb (at + length text) (length before) h in record { end_is = rw e at p.0; is_filled = rw e at p.1 }

pub nothing_stored : (at : ℕ) (before : List ℕ) → Stored at [] before before at
nothing_stored at before = record { end_is = omega arith; is_filled = filled_nothing at before }

-- a piece stored behind a piece
pub stored_then :
    {at k r : ℕ} {a b before between after : List ℕ} → Stored at a before between k → Stored k b between after r → Stored at (a ++ b) before after r
stored_then {at} {k} {a = a} {b} {before} s t =
    record {
      end_is = t.end_is ∙ omega (arith, s.end_is, length-append a b);
      is_filled = filled_then at a b before s.is_filled (sym s.end_is) t.is_filled;
    }

pub stored_length : {at r : ℕ} {text before after : List ℕ} → Stored at text before after r → length after ≡ length before
stored_length {at} {text = text} {before} s = ap length s.is_filled ∙ filled_length at text before

-- a piece put behind a piece, where both have room
pub put_then :
    (at : ℕ) {k r : ℕ} (a b : List ℕ) {before between after : List ℕ} → Stored at a before between k → at + length (a ++ b) ≤ length before →
    Puts k b between after r → Stored at (a ++ b) before after r
put_then at {k} a b {between = between} s h p =
    stored_then s (put_stored k b between (omega (arith, s.end_is, length-append a b, stored_length s)) p)

-- by another name
pub stored_as : {at r : ℕ} {a b before after : List ℕ} → a ≡ b → Stored at a before after r → Stored at b before after r
stored_as {at} {r} {before = before} {after} e = subst (λ text. Stored at text before after r) e

-- the front of a buffer
pub filled_front : (text buffer : List ℕ) → length text ≤ length buffer → filled 0 text buffer ≡ text ++ drop (length text) buffer
unfolding filled
filled_front text buffer h =
    let l : 0 + length text ≤ length buffer = omega arith in
    sets-eq text buffer 0 l ∙ ap (λ k. text ++ drop k buffer) (zero-add (length text))

-- a text as long as the buffer
pub filled_whole : (text buffer : List ℕ) → length text ≡ length buffer → filled 0 text buffer ≡ text
filled_whole text buffer e =
    filled_front text buffer (omega (arith, e)) ∙ ap (λ l. text ++ l) (drop_of_length-le buffer (omega (arith, e))) ∙ append-nil text

-- the last part of a text that is as long as the buffer, over the end of what is before it
pub last_part_whole :
    (text : List ℕ) (k size : ℕ) (before : List ℕ) {between after : List ℕ} → length text ≡ length before →
    size ≤ length text → length text - size ≤ k → k ≤ length text →
    between ≡ filled 0 (take k text) before → after ≡ filled (length text - size) (part_of (length text - size) size text) between →
    after ≡ text
last_part_whole text k size before {between} same most low high e f =
    let last = length text - size in
    filled_last_part 0 text k size before most low high e (f ∙ ap (λ n. filled n (part_of last size text) between) (sym (zero-add last)))
    ∙ filled_whole text before same

-- a text stored through a slice of the buffer, from byte `at` up to `end`
pub filled_slice :
    (at : ℕ) (text buffer : List ℕ) {end : ℕ} {slice : List ℕ} → end ≡ at + length text → end ≤ length buffer → slice ≡ text →
    put_mid at (end - at) buffer slice ≡ filled at text buffer
unfolding filled
filled_slice at text buffer {end} e h f =
    let k : at + (end - at) ≡ at + length text = omega (arith, e) in
    let behind : drop (end - at) (drop at buffer) ≡ drop (at + length text) buffer = drop-drop (end - at) at buffer ∙ ap (λ n. drop n buffer) k in
    ap (λ l. take at buffer ++ l) (ap₂ ◌++◌ f behind) ∙ sym (sets-eq text buffer at (omega (arith, e)) ∙ append_assoc (take at buffer) text _)

-- a buffer begins with what was stored at its front, and is as before behind that
pub filled_begins :
    (text more before : List ℕ) {end : ℕ} {after : List ℕ} → after ≡ filled 0 (text ++ more) before → length (text ++ more) ≤ end → end ≤ length before →
    Begins text end before after
filled_begins text more before {end} {after} e l h =
    let n = length (text ++ more) in
    let f : after ≡ (text ++ more) ++ drop n before = e ∙ filled_front (text ++ more) before (omega arith) in
    let k : end ≡ n + (end - n) = omega arith in
    record {
      front = ap (take (length text)) (f ∙ append_assoc text more (drop n before)) ∙ take-append_seam text (more ++ drop n before);
      rest = ap₂ drop k f ∙ drop-append-add (text ++ more) (drop n before) (end - n) ∙ drop-drop (end - n) n before ∙ ap (λ k. drop k before) (sym k);
    }

-- a piece behind a front, over bytes that may have changed
pub filled_over :
    (text more : List ℕ) {end : ℕ} {before after : List ℕ} → Begins text end before after → end ≤ length text + length more →
    length text + length more ≤ length after → length text + length more ≤ length before →
    filled (length text) more after ≡ filled 0 (text ++ more) before
unfolding filled
filled_over text more {end} {before} {after} b e l m =
    let n = length text + length more in
    let s : end + (n - end) ≡ n = omega arith in
    let r : drop n after ≡ drop n before =
    ap (λ k. drop k after) (sym s) ∙ sym (drop-drop (n - end) end after) ∙ ap (drop (n - end)) b.rest ∙ drop-drop (n - end) end before
    ∙ ap (λ k. drop k before) s in
    let f = filled_front (text ++ more) before (omega (arith, length-append text more)) in
    sets-eq more after (length text) l ∙ ap₂ (λ a d. (a ++ more) ++ d) b.front r
    ∙ sym (f ∙ ap (λ k. (text ++ more) ++ drop k before) (length-append text more))
