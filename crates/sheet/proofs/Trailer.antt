-- What the reader's tests tell of a sheet.
use Prim.Native.Nat.{ℕ, ◌+◌, ◌*◌, ◌≤◌, ◌<◌}
use mathlib.Core.Path.{◌≡◌, refl, sym, ap, ap₂, ◌∙◌}
use mathlib.Core.Logic.{◌⊎◌, inl, inr}
use mathlib.Core.Bool.{Bool, true, false, cond, not, ◌||◌}
use mathlib.Core.List.{List}
use native.Mathlib.Omega.{arith}
use borrow.Author.Tests.{ltb-false, eqb-true, eq-eqb, not-false, lt-ltb, le-ltb, lt-leb}
use lib.Dec.{eqb, leb, ltb}
use lib.IntN.{ℤ, pos, nat_abs}
use lib.ListN.{length}
use lib.Signed.{lt_z}
use Rattle.refusal.specs.Outcome.{Outcome, value, refused, refused_at, and_then}
use Rattle.refusal.proofs.Outcomes.{clash}
use Rattle.numbers.proofs.Bools.{or_no}
use Rattle.constants.specs.declared.Constants.{Constants}
use Rattle.constants.specs.Answers.{Acceptance, bound_answer}
use Rattle.constants.proofs.Answers.{claim_cases}
use Rattle.sheet.specs.declared.Contents.{Contents}
use Rattle.sheet.specs.declared.Claim.{Claim}
use Rattle.sheet.specs.Answers.{offset, records, whole, misfits, no_sheet, read_answer, claim_in_place, record_in_place, record_answer, constants_of, verdict, check_answer}

abbrev pub contents_of : (records offset : ℕ) → Contents
contents_of records offset = record { records = records; offset = offset }

module _ (sheet : List ℕ) where
  -- the answer that the tests lead to
  pub too_long : 65536 < length sheet → refused 17 ≡ read_answer sheet
  unfolding read_answer no_sheet
  too_long h = rw (lt-ltb 65536 (length sheet) h)

  pub too_short : length sheet ≤ 65536 → length sheet < 12 → refused 17 ≡ read_answer sheet
  unfolding read_answer no_sheet
  too_short h k = rw (le-ltb 65536 (length sheet) h, lt-ltb (length sheet) 12 k)

  module _ (h : length sheet ≤ 65536) (k : 12 ≤ length sheet) {o r w : ℕ} (eo : o ≡ offset sheet) (er : r ≡ records sheet) (ew : w ≡ whole sheet) where
    misfits_is : misfits o r w (length sheet) ≡ misfits (offset sheet) (records sheet) (whole sheet) (length sheet)
    misfits_is = rw (eo, er, ew)

    pub bad_trailer : {t : Bool} → t ≡ misfits o r w (length sheet) → t ≡ true → refused 17 ≡ read_answer sheet
    unfolding read_answer no_sheet
    bad_trailer e t = let f = sym misfits_is ∙ sym e ∙ t in rw (le-ltb 65536 (length sheet) h, le-ltb (length sheet) 12 k, f)

    pub good_trailer : {t : Bool} → t ≡ misfits o r w (length sheet) → t ≡ false → value (contents_of r o) ≡ read_answer sheet
    unfolding read_answer no_sheet
    good_trailer e t = let f = sym misfits_is ∙ sym e ∙ t in rw (le-ltb 65536 (length sheet) h, le-ltb (length sheet) 12 k, f) (ap₂ (λ r o. value (contents_of r o)) er eo)

-- what is known of a sheet that was read
pub record Opened (sheet : List ℕ) (contents : Contents) : Type 0 where
  pub is_sheet : no_sheet sheet ≡ false
  pub records_are : contents.records ≡ records sheet
  pub offset_is : contents.offset ≡ offset sheet
  pub length_le : length sheet ≤ 65536
  pub records_le : records sheet ≤ 1024
  pub whole_is : whole sheet ≡ length sheet
  pub no_gap : offset sheet + 32 * records sheet + 12 ≡ length sheet

pub opened : (sheet : List ℕ) {contents : Contents} → read_answer sheet ≡ value contents → Opened sheet contents
unfolding read_answer no_sheet
opened sheet {contents} = go (no_sheet sheet) refl
  where
    go : (t : Bool) → no_sheet sheet ≡ t → cond t (refused 17) (value (contents_of (records sheet) (offset sheet))) ≡ value contents → Opened sheet contents
    go true h e = clash (cc)
    go false h e =
        let same : contents ≡ contents_of (records sheet) (offset sheet) = cc in
        let t = or_no (ltb 65536 (length sheet) || ltb (length sheet) 12) (misfits (offset sheet) (records sheet) (whole sheet) (length sheet)) h in
        let n = or_no (ltb 65536 (length sheet)) (ltb (length sheet) 12) t.0 in
        let u = or_no (ltb 1024 (records sheet) || not (eqb (whole sheet) (length sheet))) _ t.1 in
        let v = or_no (ltb 1024 (records sheet)) _ u.0 in
        record {
          is_sheet = h;
          records_are = ap (λ c. c.records) same;
          offset_is = ap (λ c. c.offset) same;
          length_le = ltb-false 65536 (length sheet) n.0;
          records_le = ltb-false 1024 (records sheet) v.0;
          whole_is = eqb-true (whole sheet) (length sheet) (not-false _ v.1);
          no_gap = eqb-true (offset sheet + 32 * records sheet + 12) (length sheet) (not-false _ u.1);
        }

-- and what makes it one
pub is_opened :
    (sheet : List ℕ) {r o : ℕ} → length sheet ≤ 65536 → 12 ≤ length sheet → offset sheet ≡ o → records sheet ≡ r → r ≤ 1024 → whole sheet ≡ length sheet →
    o + 32 * r + 12 ≡ length sheet → read_answer sheet ≡ value (contents_of r o)
unfolding read_answer no_sheet
is_opened sheet {r} {o} long short eo er few ew gap =
    let a = le-ltb 65536 (length sheet) long in
    let b = le-ltb (length sheet) 12 short in
    let c = le-ltb 1024 r few in
    let d = ap not (eq-eqb (length sheet) (length sheet) refl) in
    let e = ap not (eq-eqb (o + 32 * r + 12) (length sheet) gap) in
    rw (eo, er, ew, a, b, c, d, e)

pub refused_so : (sheet : List ℕ) {n : ℕ} → refused n ≡ read_answer sheet → (no_sheet sheet ≡ true) × (n ≡ 17)
unfolding read_answer
refused_so sheet {n} = go (no_sheet sheet)
  where
    go : (t : Bool) → refused n ≡ cond t (refused 17) (value (contents_of (records sheet) (offset sheet))) → (t ≡ true) × (n ≡ 17)
    go true e = (refl, cc)
    go false e = clash (cc)

-- a sheet is refused with 17, or read
pub refused_or_read : (sheet : List ℕ) → (read_answer sheet ≡ refused 17) ⊎ ((contents : Contents) × (read_answer sheet ≡ value contents))
unfolding read_answer
refused_or_read sheet = go (no_sheet sheet)
  where
    go :
        (t : Bool) → let o = cond t (refused 17) (value (contents_of (records sheet) (offset sheet))) in
        (o ≡ refused 17) ⊎ ((contents : Contents) × (o ≡ value contents))
    go true = inl refl
    go false = inr (_, refl)

-- the answers for a place, where the sheet is read and where it is refused
module _ (sheet : List ℕ) where
  pub no_records : {n : ℕ} → refused n ≡ read_answer sheet → (place : ℤ) → refused n ≡ record_answer sheet place
  unfolding record_answer
  no_records e place = ap (λ o. and_then o (λ contents. record_in_place sheet contents place)) e

  pub record_in : {contents : Contents} → read_answer sheet ≡ value contents → (place : ℤ) → record_in_place sheet contents place ≡ record_answer sheet place
  unfolding record_answer
  record_in e place = sym (ap (λ o. and_then o (λ contents. record_in_place sheet contents place)) e)

  module _ (contents : Contents) (place : ℤ) (h : lt_z place (pos 0) ≡ false) where
    pub in_place : leb contents.records (nat_abs place) ≡ false → value (claim_in_place sheet contents (nat_abs place)) ≡ record_in_place sheet contents place
    in_place k = rw (h, k)

  pub no_check : {n : ℕ} (place : ℤ) → refused n ≡ record_answer sheet place → refused n ≡ check_answer sheet place
  unfolding check_answer
  no_check place e = ap (λ o. and_then o verdict) e

  pub check_in : {claim : Claim} (place : ℤ) → value claim ≡ record_answer sheet place → verdict claim ≡ check_answer sheet place
  unfolding check_answer
  check_in place e = ap (λ o. and_then o verdict) e

  -- the record at a place that is there
  pub check_here :
      {contents : Contents} → read_answer sheet ≡ value contents → (place : ℕ) → place < contents.records → {o : Outcome Acceptance} →
      o ≡ verdict (claim_in_place sheet contents place) → o ≡ check_answer sheet (pos place)
  check_here {contents} e place h f =
      f ∙ check_in (pos place) (in_place contents (pos place) (le-ltb place 0 (omega arith)) (lt-leb contents.records place h) ∙ record_in e (pos place))

-- the checker's answer to the constants and the bound of a claim
pub judged :
    (claim : Claim) (k : Constants) (bound : ℤ) → k ≡ constants_of claim → bound ≡ pos claim.bound → bound_answer k.a k.b k.d k.m k.c k.k k.t bound ≡ verdict claim
unfolding verdict
judged claim k bound e f = ap₂ (λ k bound. bound_answer k.a k.b k.d k.m k.c k.k k.t bound) e f

-- a least n that is handed back is one of 32 bits
verdict_least : (claim : Claim) (number n : ℕ) → verdict claim ≡ refused_at number n → n < 4294967296
unfolding verdict
verdict_least claim number n =
    claim_cases _ _ _ _ _ _ _ (pos claim.bound) (λ o. o ≡ refused_at number n → n < 4294967296) (λ e. clash (cc))
    (λ k l m e. let same : k ≡ n = cc in omega arith) (λ e. clash (cc)) (λ e. clash (cc))

pub check_least : (sheet : List ℕ) (place : ℤ) (number n : ℕ) → check_answer sheet place ≡ refused_at number n → n < 4294967296
unfolding check_answer record_answer read_answer
check_least sheet place number n = read (no_sheet sheet)
  where
    contents : Contents
    contents = contents_of (records sheet) (offset sheet)

    found :
        (t : Bool) → and_then (cond t (refused 17) (value (claim_in_place sheet contents (nat_abs place)))) verdict ≡ refused_at number n → n < 4294967296
    found true e = clash (cc)
    found false e = verdict_least (claim_in_place sheet contents (nat_abs place)) number n e

    read :
        (t : Bool) → and_then (and_then (cond t (refused 17) (value contents)) (λ contents. record_in_place sheet contents place)) verdict ≡ refused_at number n →
        n < 4294967296
    read true e = clash (cc)
    read false e = found (lt_z place (pos 0) || leb (records sheet) (nat_abs place)) e
