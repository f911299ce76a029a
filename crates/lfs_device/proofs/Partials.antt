-- What stays where a part of a block is programmed.
use Rattle.std.proofs.Common.{◌≡◌, ◌≤◌, ◌<◌, ℕ, ◌+◌, Bool, true, false, nat_le, nat_lt, ◌==◌, length, arith, List, ◌∷◌, ◌++◌, ◌-◌, ◌*◌, ◌/◌, ◌%◌, take, drop, slice_range, not, ◌&&◌, inl, inr, refl, sym, ◌∙◌, ap, subst}
use Rattle.std.proofs.lemmas.Bool.Decides.{nat_tests}
use Rattle.std.proofs.Math.Nat.{mul-le-mul_left, add-mul-mod_self_right}
use Rattle.std.proofs.lemmas.Bool.{cases_lt, cases_eq}
use Rattle.std.proofs.lemmas.List.{take-take, drop-take, take-append-drop}
use Rattle.std.proofs.lemmas.Nat.{div-add-mod'}
use Rattle.std.specs.Prelude.{Result, Ok, Err, OnOk, OnErr, is_err}
use Rattle.lfs_model.specs.format.Blocks.{Blocks, SameExcept, SameOutside, block_bytes, programmed}
use Rattle.lfs_model.proofs.Overwrites.{SameExcept-refl, SameExcept-trans, SameOutside-refl, SameOutside-trans, SameOutside-wider, SameOutside-programmed}
use Rattle.lfs_model.specs.session.History.{DeviceCall, CallEvent, call_event, fault_count, Read, Program, is_unprogrammed_byte, unprogrammed_after}
use Rattle.lfs_device.specs.declared.device.BlockDevice.{Ghosts}
use Rattle.lfs_device.specs.declared.error.Error.{Error}
use Rattle.lfs_device.specs.Partial.{StayUnprogrammedOutside, ChangesOnlyRange}

pub keeps-trans : {b low high : ℕ} {old mid new : List CallEvent} → StayUnprogrammedOutside b low high old mid → StayUnprogrammedOutside b low high mid new → StayUnprogrammedOutside b low high old new
keeps-trans first second = record {
  elsewhere = λ other k ne was. second.elsewhere other k ne (first.elsewhere other k ne was);
  below = λ k lt was. second.below k lt (first.below k lt was);
  above = λ k le was. second.above k le (first.above k le was);
}

pub keeps-wider : {b low high : ℕ} {old new : List CallEvent} (from to : ℕ) → StayUnprogrammedOutside b low high old new → from ≤ low → high ≤ to → StayUnprogrammedOutside b from to old new
keeps-wider {low = low} {high = high} from to keeps before behind = record {
  elsewhere = keeps.elsewhere;
  below = λ k lt was. keeps.below k (omega arith) was;
  above = λ k le was. keeps.above k (omega arith) was;
}

pub keeps-read : {old new : List CallEvent} {block off len : ℕ} {before after : Blocks} {failed : Bool} (b low high : ℕ) → new ≡ call_event (Read block off len) before after failed ∷ old → StayUnprogrammedOutside b low high old new
keeps-read b low high is = record {
  elsewhere = λ other k ne was. ap (λ (h : List CallEvent). is_unprogrammed_byte h other k) is ∙ was;
  below = λ k lt was. ap (λ (h : List CallEvent). is_unprogrammed_byte h b k) is ∙ was;
  above = λ k le was. ap (λ (h : List CallEvent). is_unprogrammed_byte h b k) is ∙ was;
}

pub keeps-program : {old new : List CallEvent} {b off : ℕ} {bytes : List ℕ} {before after : Blocks} {failed : Bool} → new ≡ call_event (Program b off bytes) before after failed ∷ old
    → StayUnprogrammedOutside b off (off + length bytes) old new
keeps-program {old} {b = b} {off = off} {bytes = bytes} is = record {
  elsewhere = λ other k ne was.
      let still : is_unprogrammed_byte old other k ≡ true = was in
      let apart : (other == b) ≡ false = grind (arith, nat_tests) in
      ap (λ (h : List CallEvent). is_unprogrammed_byte h other k) is ∙ grind (arith, nat_tests, still, apart);
  below = λ k lt was.
      let still : is_unprogrammed_byte old b k ≡ true = was in
      let short : nat_le off k ≡ false = grind (arith, nat_tests) in
      ap (λ (h : List CallEvent). is_unprogrammed_byte h b k) is ∙ grind (arith, nat_tests, still, short);
  above = λ k le was.
      let still : is_unprogrammed_byte old b k ≡ true = was in
      let past : nat_lt k (off + length bytes) ≡ false = grind (arith, nat_tests) in
      ap (λ (h : List CallEvent). is_unprogrammed_byte h b k) is ∙ grind (arith, nat_tests, still, past);
}

more_faults : {old new : List CallEvent} {call : DeviceCall} {before after : Blocks} {failed : Bool} → new ≡ call_event call before after failed ∷ old → fault_count old ≤ fault_count new
more_faults {old} {failed = failed} is = subst (λ (h : List CallEvent). fault_count old ≤ fault_count h) (sym is) (omega arith)

-- ---- a change of a part

module _ {D : Type 0} (g : Ghosts D) where
  pub ChangesOnlyRange-trans : {b low high : ℕ} {old mid new : D} → ChangesOnlyRange g b low high old mid → ChangesOnlyRange g b low high mid new → ChangesOnlyRange g b low high old new
  ChangesOnlyRange-trans first second = record {
    within = SameOutside-trans first.within second.within;
    others = SameExcept-trans first.others second.others;
    geometry = second.geometry ∙ first.geometry;
    faults = omega (arith, first.faults, second.faults);
    keeps = keeps-trans first.keeps second.keeps;
  }

  pub ChangesOnlyRange-wider : {b low high : ℕ} {old new : D} (from to : ℕ) → ChangesOnlyRange g b low high old new → from ≤ low → high ≤ to → ChangesOnlyRange g b from to old new
  ChangesOnlyRange-wider from to part before behind = record {
    within = SameOutside-wider from to part.within before behind;
    others = part.others;
    geometry = part.geometry;
    faults = part.faults;
    keeps = keeps-wider from to part.keeps before behind;
  }

  pub ChangesOnlyRange-read : {old new : D} {block at len : ℕ} {failed : Bool} (b low high : ℕ) → g.history new ≡ call_event (Read block at len) (g.blocks old) (g.blocks new) failed ∷ g.history old
      → g.blocks new ≡ g.blocks old → g.geometry new ≡ g.geometry old → ChangesOnlyRange g b low high old new
  ChangesOnlyRange-read {old} b low high is same geometry = record {
    within = subst (λ (blocks : Blocks). SameOutside low high (block_bytes (g.blocks old) b) (block_bytes blocks b)) (sym same) (SameOutside-refl low high (block_bytes (g.blocks old) b));
    others = subst (SameExcept b (g.blocks old)) (sym same) (SameExcept-refl b (g.blocks old));
    geometry = geometry;
    faults = more_faults is;
    keeps = keeps-read b low high is;
  }

  pub ChangesOnlyRange-program : {old new : D} {b off : ℕ} {bytes : List ℕ} (result : Result (Unit {0}) Error) → b < length (g.blocks old) → off ≤ length (block_bytes (g.blocks old) b)
      → OnOk result (g.blocks new ≡ programmed (g.blocks old) b off bytes)
      → OnErr result (SameOutside off (off + length bytes) (block_bytes (g.blocks old) b) (block_bytes (g.blocks new) b))
      → SameExcept b (g.blocks old) (g.blocks new) → g.geometry new ≡ g.geometry old
      → g.history new ≡ call_event (Program b off bytes) (g.blocks old) (g.blocks new) (is_err result) ∷ g.history old → ChangesOnlyRange g b off (off + length bytes) old new
  ChangesOnlyRange-program {old} {new} {b} {off} {bytes} result there fits ok err others geometry is = record {
    within = either result ok err;
    others = others;
    geometry = geometry;
    faults = more_faults is;
    keeps = keeps-program is;
  }
    where
      either : (r : Result (Unit {0}) Error) → OnOk r (g.blocks new ≡ programmed (g.blocks old) b off bytes)
          → OnErr r (SameOutside off (off + length bytes) (block_bytes (g.blocks old) b) (block_bytes (g.blocks new) b))
          → SameOutside off (off + length bytes) (block_bytes (g.blocks old) b) (block_bytes (g.blocks new) b)
      either (Ok u) done left = subst (λ (blocks : Blocks). SameOutside off (off + length bytes) (block_bytes (g.blocks old) b) (block_bytes blocks b)) (sym done)
          (SameOutside-programmed (g.blocks old) b off bytes there fits)
      either (Err e) done left = left

-- ---- places in a block

-- a part of a list and the part after it
pub take-append-slice_range : (xs : List ℕ) (m n : ℕ) → m ≤ n → take m xs ++ slice_range xs m n ≡ take n xs
take-append-slice_range xs m n le =
    let more : m + (n - m) ≡ n = omega arith in
    ap (λ (l : List ℕ). l ++ slice_range xs m n) (sym (take-take m n xs le))
    ∙ ap (λ (l : List ℕ). take m (take n xs) ++ l) (sym (drop-take m (n - m) xs) ∙ ap (λ k. drop m (take k xs)) more)
    ∙ take-append-drop m (take n xs)

-- a multiple below another is at least a step below it
pub step_below : (m n page : ℕ) → m % page ≡ 0 → n % page ≡ 0 → m < n → m + page ≤ n
step_below m n page a b lt =
    let quotient : m / page * page ≡ m = omega (arith, div-add-mod' m page) in
    let other : n / page * page ≡ n = omega (arith, div-add-mod' n page) in
    elim (cases_lt (m / page) (n / page)) [
      | inl lower ↦ let more : m / page + 1 ≤ n / page = omega arith in omega (arith, mul-le-mul_left page more)
      | inr above ↦ absurd (omega (arith, mul-le-mul_left page above))
    ]

-- after the whole pages of what is stored there is room for one more, where more is stored
pub page_room : (off stored len page : ℕ) → off % page ≡ 0 → (off + len) % page ≡ 0 → stored ≤ len → stored - stored % page < stored → off + (stored - stored % page) + page ≤ off + len
page_room off stored len page begins ends le lt =
    let whole : stored / page * page ≡ stored - stored % page = omega (arith, div-add-mod' stored page) in
    let there : (off + (stored - stored % page)) % page ≡ 0 = ap (λ n. (off + n) % page) (sym whole) ∙ add-mul-mod_self_right off (stored / page) page ∙ begins in
    step_below (off + (stored - stored % page)) (off + len) page there ends (omega arith)

pub keeps-after : {b off : ℕ} {old new : List CallEvent} (bytes : List ℕ) (failed : Bool) → StayUnprogrammedOutside b off (off + length bytes) old new → (other k : ℕ)
    → unprogrammed_after (Program b off bytes) failed other k (is_unprogrammed_byte old other k) ≡ true → is_unprogrammed_byte new other k ≡ true
keeps-after {b} {off} {old} {new} bytes failed keeps other k is =
    elim (cases_eq other b) [
      | inr apart ↦ keeps.elsewhere other k apart (left (is_unprogrammed_byte old other k) (not (other == b && nat_le off k && nat_lt k (off + length bytes))) is)
      | inl here ↦ elim (cases_lt k off) [
        | inl short ↦ subst (λ at. is_unprogrammed_byte new at k ≡ true) (sym here) (keeps.below k short (subst (λ at. is_unprogrammed_byte old at k ≡ true) here (left (is_unprogrammed_byte old other k) (not (other == b && nat_le off k && nat_lt k (off + length bytes))) is)))
        | inr reached ↦ elim (cases_lt k (off + length bytes)) [
          | inr past ↦ subst (λ at. is_unprogrammed_byte new at k ≡ true) (sym here) (keeps.above k past (subst (λ at. is_unprogrammed_byte old at k ≡ true) here (left (is_unprogrammed_byte old other k) (not (other == b && nat_le off k && nat_lt k (off + length bytes))) is)))
          | inl within ↦ let inside : (other == b && nat_le off k && nat_lt k (off + length bytes)) ≡ true = grind (arith, nat_tests) in absurd (none (is_unprogrammed_byte old other k) (ap (λ t. is_unprogrammed_byte old other k && not t) (sym inside) ∙ is))
        ]
      ]
    ]
  where
    left : (a c : Bool) → (a && c) ≡ true → a ≡ true
    left true c is = refl
    left false c is = is

    none : (a : Bool) → (a && false) ≡ true → ⊥
    none true is = absurd (cc)
    none false is = absurd (cc)
