-- What a read of a record leaves of the records that a file has.
use Rattle.std.proofs.Common.{◌≡◌, ℕ, zero, suc, ◌+◌, ◌≤◌, ◌<◌, Bool, true, false, List, [], ◌∷◌, ◌++◌, drop, length, Option, Some, None, unwrap_or, if◌then◌else◌, refl, sym, ap, ◌∙◌, inl, inr, arith, Bor}
use Rattle.std.proofs.lemmas.List.{length-drop}
use Rattle.std.proofs.lemmas.Bool.{cases_Bool, true≢false}
use Rattle.csv.specs.Machine.{Read, ends_at_end, fields_after, field_after, in_field, is_end, next_record, step}
use Rattle.csv.specs.Reading.{ReadRecord, ReadsNext, NextIs, default_config, is_flexible, records_from, records_next, source_of, pending_of, took_first, reader_state}
use Rattle.csv.specs.declared.parser.State.{State}
use Rattle.csv.specs.declared.parser.State.TheVariants as st
use Rattle.csv.specs.declared.reader.Reader.{Reader}
use Rattle.strategy_file.specs.CsvRead.{IsReading, bytes_left, records_left}

-- behind the byte that ends a record the reader stands between two
field_ends : (c : ℕ) → is_end (in_field default_config c).1 ≡ true → ends_at_end (in_field default_config c).0 ≡ false
field_ends c e = grind arith

record_ends : (s : State) (c : ℕ) → is_end (step default_config s c).1 ≡ true → ends_at_end (step default_config s c).0 ≡ false
record_ends st.StartRecord c e = grind (arith, field_ends c)
record_ends st.StartField c e = grind (arith, field_ends c)
record_ends st.InField c e = field_ends c e
record_ends st.InQuoted c e = grind (arith, field_ends c)
record_ends st.InEscape c e = grind (arith, field_ends c)
record_ends st.AfterQuote c e = grind (arith, field_ends c)
record_ends st.InComment c e = grind (arith, field_ends c)
record_ends st.AfterCr c e = grind (arith, field_ends c)

-- where a record leaves the reader that a text begins with or goes on with
pub record LeftBy (p : Read) (xs : List ℕ) : Type 0 where
  pub shorter : length p.2 ≤ length (drop 1 xs)
  pub between : ends_at_end p.1 ≡ false

left_by : (s : State) (fields : List (List ℕ)) (field xs : List ℕ) (p : Read) → next_record default_config s fields field xs ≡ Some p → LeftBy p xs
unfolding next_record
left_by s fields field [] p e =
    elim (cases_Bool (ends_at_end s)) [
      | inl ends ↦
          let is : (fields ++ (field ∷ []), st.StartRecord, []) ≡ p = cc in
          rw (← is) (record { shorter = omega arith; between = refl })
      | inr goes ↦ absurd cc
    ]
left_by s fields field (c ∷ xs) p e =
    by (is_end (step default_config s c).1) refl (left_by (step default_config s c).0 (fields_after (step default_config s c).1 fields field) (field_after (step default_config s c).1 c field) xs p)
  where
    now : Some (fields_after (step default_config s c).1 fields field, (step default_config s c).0, xs) ≡ Some p
        → is_end (step default_config s c).1 ≡ true → LeftBy p (c ∷ xs)
    now e ends =
        let is : (fields_after (step default_config s c).1 fields field, (step default_config s c).0, xs) ≡ p = cc in
        rw (← is) (record { shorter = omega arith; between = record_ends s c ends })

    by : (b : Bool) → is_end (step default_config s c).1 ≡ b
        → (next_record default_config (step default_config s c).0 (fields_after (step default_config s c).1 fields field) (field_after (step default_config s c).1 c field) xs ≡ Some p → LeftBy p xs)
        → LeftBy p (c ∷ xs)
    by true ends more = now (rw ends at e) ends
    by false goes more =
        let left = more (rw goes at e) in
        record { shorter = omega (arith, left.shorter, length-drop 1 xs); between = left.between }

-- a record that is taken between two leaves fewer bytes
pub record TakenOff (s : State) (xs : List ℕ) (p : Read) : Type 0 where
  pub shorter : length p.2 < length xs
  pub between : ends_at_end p.1 ≡ false

taken_off : (s : State) (xs : List ℕ) (p : Read) → ends_at_end s ≡ false → next_record default_config s [] [] xs ≡ Some p → TakenOff s xs p
unfolding next_record
taken_off s [] p between e =
    let none : None ≡ Some p = rw between at e in
    absurd cc
taken_off s (c ∷ xs) p between e =
    let left = left_by s [] [] (c ∷ xs) p e in
    record { shorter = omega (arith, left.shorter); between = left.between }

-- more steps than there are bytes find no more records
pub same_records : (n m : ℕ) (s : State) (xs : List ℕ) → ends_at_end s ≡ false → length xs < n → length xs < m
    → records_from default_config n s xs ≡ records_from default_config m s xs
unfolding records_from
same_records zero m s xs between h k = absurd (omega arith)
same_records (suc n) zero s xs between h k = absurd (omega arith)
same_records (suc n) (suc m) s xs between h k = by (next_record default_config s [] [] xs) refl (same_records n m)
  where
    by : (o : Option Read) → next_record default_config s [] [] xs ≡ o
        → ((s2 : State) (ys : List ℕ) → ends_at_end s2 ≡ false → length ys < n → length ys < m → records_from default_config n s2 ys ≡ records_from default_config m s2 ys)
        → records_next (records_from default_config n) o ≡ records_next (records_from default_config m) o
    by None e same = refl
    by (Some p) e same =
        let off = taken_off s xs p between e in
        ap (λ more. p.0 ∷ more) (same p.1 p.2 off.between (omega (arith, off.shorter)) (omega (arith, off.shorter)))

-- all records from a state, and those behind the next one
abbrev pub all_from : State → List ℕ → List (List (List ℕ))
all_from s xs = records_from default_config (length xs + 1) s xs

all_by_next : (s : State) (xs : List ℕ) → ends_at_end s ≡ false
    → all_from s xs ≡ records_next (records_from default_config (length xs)) (next_record default_config s [] [] xs)
unfolding records_from
all_by_next s xs between = same_records (length xs + 1) (suc (length xs)) s xs between (omega arith) (omega arith)

pub records_more : (s : State) (xs : List ℕ) (p : Read) → ends_at_end s ≡ false → next_record default_config s [] [] xs ≡ Some p
    → all_from s xs ≡ p.0 ∷ all_from p.1 p.2
records_more s xs p between e =
    let off = taken_off s xs p between e in
    all_by_next s xs between ∙ rw e (ap (λ more. p.0 ∷ more) (same_records (length xs) (length p.2 + 1) p.1 p.2 off.between off.shorter (omega arith)))

pub records_none : (s : State) (xs : List ℕ) → ends_at_end s ≡ false → next_record default_config s [] [] xs ≡ None → all_from s xs ≡ []
records_none s xs between e = all_by_next s xs between ∙ rw e refl

-- what a read that went well has done, from a state and the bytes before it to those after it
pub record Took (s : State) (xs : List ℕ) (s2 : State) (left : Option (List ℕ)) (found : Bool) (fields : List (List ℕ)) : Type 0 where
  pub known : found ≡ true → left ≡ Some (unwrap_or left [])
  pub between : found ≡ true → ends_at_end s2 ≡ false
  pub first : all_from s xs ≡ (if found then fields ∷ all_from s2 (unwrap_or left []) else [])
  pub shorter : found ≡ true → length (unwrap_or left []) < length xs

took : (s : State) (xs : List ℕ) (s2 : State) (left : Option (List ℕ)) (found : Bool) (fields : List (List ℕ))
    → ends_at_end s ≡ false → ReadsNext default_config s (Some xs) left found fields s2 → Took s xs s2 left found fields
took s xs s2 None found fields between reads = absurd reads
took s xs s2 (Some ys) found fields between reads = by (next_record default_config s [] [] xs) refl reads
  where
    by : (o : Option Read) → next_record default_config s [] [] xs ≡ o → NextIs o found fields s2 ys → Took s xs s2 (Some ys) found fields
    by None e none =
        rw none (record {
          known = λ yes. absurd (true≢false (sym yes));
          between = λ yes. absurd (true≢false (sym yes));
          first = records_none s xs between e;
          shorter = λ yes. absurd (true≢false (sym yes));
        })
    by (Some p) e one =
        let off = taken_off s xs p between e in
        rw (one.0, one.1, one.2, one.3) (record {
          known = λ yes. refl;
          between = λ yes. off.between;
          first = records_more s xs p between e;
          shorter = λ yes. off.shorter;
        })

-- the same of a reader
pub record Taken (old new : Reader (Bor (List ℕ))) (found : Bool) (fields : List (List ℕ)) : Type 0 where
  pub reading : found ≡ true → IsReading new
  pub first : records_left old ≡ (if found then fields ∷ records_left new else [])
  pub shorter : found ≡ true → length (bytes_left new) < length (bytes_left old)

pub taken : (old new : Reader (Bor (List ℕ))) (found : Bool) (fields : List (List ℕ)) → IsReading old → took_first new ≡ true
    → is_flexible new ≡ is_flexible old → ReadRecord (λ bytes. Some bytes.now) old new found fields → Taken old new found fields
taken old new found fields reading first flexible reads =
    let is : source_of (λ bytes. Some bytes.now) new ≡ pending_of (Some new.rdr.now) new = rw reads.1 refl in
    let next : ReadsNext default_config (reader_state old) (Some (bytes_left old)) (source_of (λ bytes. Some bytes.now) new) found fields (reader_state new)
    = rw is (rw (reading.config, reading.known) at reads.0) in
    let t = took (reader_state old) (bytes_left old) (reader_state new) (source_of (λ bytes. Some bytes.now) new) found fields reading.between next in
    record {
      reading = λ yes. record {
        config = reads.2 ∙ reading.config;
        flexible = flexible ∙ reading.flexible;
        untrimmed = reads.3 ∙ reading.untrimmed;
        ready = inl first;
        between = t.between yes;
        known = t.known yes;
      };
      first = t.first;
      shorter = t.shorter;
    }
