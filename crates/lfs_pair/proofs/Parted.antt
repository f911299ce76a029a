-- A content, cut into the parts of two pairs, and a stop while they are written.
use Rattle.std.specs.Prelude.{All}
use Rattle.std.proofs.Common.{ℕ, zero, suc, get_or, ◌≡◌, ◌≢◌, ◌+◌, ◌≤◌, ◌<◌, ◌==◌, ◌&&◌, ◌^◌, false, List, [], ◌∷◌, Some, length, take, drop, sum_by, sym, ap, ◌∙◌, subst, arith, inl, inr}
use Rattle.lfs_pair.proofs.Common.{cases_lt, ne_eqb, disk_of_blocks, Blocks, block_bytes, Disk, pair_capacity, slots_limit, AllCallsSince, CallEvent, RawSlot, RawContent, current_block, raw_content, LogEntry, AreNamed, AreWellFormed, IsWellFormed, RawContentFitsInPair, raw_slot_size, ContentChange, AllCallsSince-until, nothing_logged, SameExceptBlocks-trans, SameExceptBlocks-wider, AreElsewhere, current_block-stays, raw_content-stays, header_address, HasFirstLogEntry, HasNewContent, HasOldContent, KeepsFirstEntry, LossLeavesNew, KeepsOutsidePair, changed_log_content, changed_pair_content, IsFittingSplit, ErasedOneMore, IsWrittenAnew, CanSplitPair, LossLeavesSplit}
use Rattle.std.proofs.lemmas.List.{take_all}
use Rattle.lfs_device.specs.declared.geometry.Geometry.{Geometry}
use Rattle.lfs_model.specs.format.Slots.{null_address}
use Rattle.lfs_pair.specs.declared.pair.Pair.{Pair}
use Rattle.lfs_pair.specs.Split.{AreApart, IsContentCut, BothHaveSlots, KeepsOutsideBoth}
use Rattle.lfs_pair.proofs.Changed.{made_here, made_is, some_same}

-- ---- blocks of two pairs

both : (P : ℕ → Type 0) (a b : ℕ) → P a → P b → All P (a ∷ b ∷ [])
both P a b p q = go
  where
    go : (k d : ℕ) → k < length (a ∷ b ∷ []) → P (get_or (a ∷ b ∷ []) k d)
    go zero d l = p
    go (suc zero) d l = q
    go (suc (suc k)) d l = absurd (omega arith)

pub pair_elsewhere : {at fresh : ℕ × ℕ} → AreApart at fresh → AreElsewhere at (fresh.0 ∷ fresh.1 ∷ [])
pair_elsewhere {at} {fresh} apart = record {
  first = both (λ b. b ≢ at.0) fresh.0 fresh.1 (λ is. apart.first_first (sym is)) (λ is. apart.first_second (sym is));
  second = both (λ b. b ≢ at.1) fresh.0 fresh.1 (λ is. apart.second_first (sym is)) (λ is. apart.second_second (sym is));
}

pub fresh_elsewhere : {at fresh : ℕ × ℕ} → AreApart at fresh → AreElsewhere fresh (at.0 ∷ at.1 ∷ [])
fresh_elsewhere {at} {fresh} apart = record {
  first = both (λ b. b ≢ fresh.0) at.0 at.1 apart.first_first apart.second_first;
  second = both (λ b. b ≢ fresh.1) at.0 at.1 apart.first_second apart.second_second;
}

pub among_first : (at fresh : ℕ × ℕ) (other : ℕ) → All (λ c. c ≢ other) (at.0 ∷ at.1 ∷ fresh.0 ∷ fresh.1 ∷ []) → All (λ c. c ≢ other) (at.0 ∷ at.1 ∷ [])
among_first at fresh other apart = both (λ c. c ≢ other) at.0 at.1 (apart 0 0 (omega arith)) (apart 1 0 (omega arith))

pub among_second : (at fresh : ℕ × ℕ) (other : ℕ) → All (λ c. c ≢ other) (at.0 ∷ at.1 ∷ fresh.0 ∷ fresh.1 ∷ []) → All (λ c. c ≢ other) (fresh.0 ∷ fresh.1 ∷ [])
among_second at fresh other apart = both (λ c. c ≢ other) fresh.0 fresh.1 (apart 2 0 (omega arith)) (apart 3 0 (omega arith))

pub keeps_by_fresh : (at fresh : ℕ × ℕ) {old new : Blocks} → KeepsOutsidePair fresh old new → KeepsOutsideBoth at fresh old new
keeps_by_fresh at fresh same = SameExceptBlocks-wider (at.0 ∷ at.1 ∷ fresh.0 ∷ fresh.1 ∷ []) (among_second at fresh) same

pub keeps_by_both : (at fresh : ℕ × ℕ) {old mid new : Blocks} → KeepsOutsidePair fresh old mid → KeepsOutsidePair at mid new → KeepsOutsideBoth at fresh old new
keeps_by_both at fresh first second = SameExceptBlocks-trans (keeps_by_fresh at fresh first) (SameExceptBlocks-wider (at.0 ∷ at.1 ∷ fresh.0 ∷ fresh.1 ∷ []) (among_first at fresh) second)

-- ---- both parts can be written

HaveParts-take : (n : ℕ) (slots : List RawSlot) → AreWellFormed slots → AreWellFormed (take n slots)
HaveParts-take zero slots have = tt
HaveParts-take (suc n) [] have = tt
HaveParts-take (suc n) (s ∷ slots) have = (have.0, HaveParts-take n slots have.1)

HaveParts-drop : (n : ℕ) (slots : List RawSlot) → AreWellFormed slots → AreWellFormed (drop n slots)
HaveParts-drop zero slots have = have
HaveParts-drop (suc n) [] have = tt
HaveParts-drop (suc n) (s ∷ slots) have = HaveParts-drop n slots have.1

AreNamed-take : (n : ℕ) (slots : List RawSlot) → AreNamed slots → AreNamed (take n slots)
AreNamed-take zero slots have = tt
AreNamed-take (suc n) [] have = tt
AreNamed-take (suc n) (s ∷ slots) have = (have.0, AreNamed-take n slots have.1)

AreNamed-drop : (n : ℕ) (slots : List RawSlot) → AreNamed slots → AreNamed (drop n slots)
AreNamed-drop zero slots have = have
AreNamed-drop (suc n) [] have = tt
AreNamed-drop (suc n) (s ∷ slots) have = AreNamed-drop n slots have.1

-- a content that a compaction can write
pub record IsReady (block_size page : ℕ) (c : RawContent) : Type 0 where
  pub logged : IsWellFormed c
  pub names : AreNamed c.slots
  pub fits : RawContentFitsInPair block_size page c

pub front_ready : {block_size page : ℕ} {whole front back : RawContent} {fresh : ℕ × ℕ} → IsContentCut block_size page whole fresh front back → IsWellFormed whole → AreNamed whole.slots
    → fresh.0 < 2 ^ 16 → fresh.1 < 2 ^ 16 → IsReady block_size page front
front_ready {block_size} {page} {whole} {fresh = fresh} parts logged names first second =
    let real : (fresh.0 == null_address) ≡ false = ne_eqb fresh.0 null_address (λ is. absurd (omega (arith, is, first))) in
    subst (IsReady block_size page) (sym parts.front_is) (record {
      logged = record {
        slots = HaveParts-take parts.cut whole.slots logged.slots;
        tail = ((omega (arith, first), omega (arith, second)), ap (λ b. b && fresh.1 == null_address) real);
        move = logged.move;
      };
      names = AreNamed-take parts.cut whole.slots names;
      fits = record { size = parts.is_cut.front.size; count = parts.is_cut.front.count };
    })

pub back_ready : {block_size page : ℕ} {whole front back : RawContent} {fresh : ℕ × ℕ} → IsContentCut block_size page whole fresh front back → IsWellFormed whole → AreNamed whole.slots → IsReady block_size page back
back_ready {block_size} {page} {whole} parts logged names =
    subst (IsReady block_size page) (sym parts.back_is) (record {
      logged = record {
        slots = HaveParts-drop parts.cut whole.slots logged.slots;
        tail = logged.tail;
        move = nothing_logged.move;
      };
      names = AreNamed-drop parts.cut whole.slots names;
      fits = record { size = parts.is_cut.back.size; count = parts.is_cut.back.count };
    })

-- if the whole doesn't fit, neither part is empty
pub cut_inside : {block_size page cut : ℕ} {whole : RawContent} → IsFittingSplit block_size page whole.slots cut → BothHaveSlots block_size page whole cut
cut_inside {block_size} {page} {cut} {whole} is full = (front cut is, back)
  where
    front : (k : ℕ) → IsFittingSplit block_size page whole.slots k → 0 < k
    front zero none = absurd (full (record { size = none.back.size; count = none.back.count }))
    front (suc k) some = omega arith

    back : cut < length whole.slots
    back = elim (cases_lt cut (length whole.slots)) [
      | inl lt ↦ lt
      | inr le ↦
          let all = take_all cut whole.slots le in
          absurd (full (record { size = subst (λ s. sum_by raw_slot_size s ≤ pair_capacity block_size page) all is.front.size; count = subst (λ s. length s ≤ slots_limit) all is.front.count }))
    ]

-- one more block that is erased and written
pub clears_more : {count revision : ℕ} {c : RawContent} {block : List ℕ} {before mid history : List CallEvent} {P Q : CallEvent → Type 0} → AllCallsSince P before mid → AllCallsSince Q mid history → ErasedOneMore count before mid → IsWrittenAnew revision c block mid history
    → ErasedOneMore (count + 1) before history
clears_more {before = before} {mid = mid} {history = history} first second clears anew = record {
  erases = let some = clears.erases in let more = anew.erases in omega (arith, some, more);
  at_most = let most = clears.at_most in let more = anew.programs in omega (arith, most, more);
  programs = λ logs. let one = clears.programs (AllCallsSince-until logs first second) in let more = anew.programs in omega (arith, one, more);
}

-- ---- a pair that is being split

pub record IsSplitting (disk : Disk) (at fresh : ℕ × ℕ) (changes : List ContentChange) (front back : RawContent) : Type 0 where
  pub whole : RawContent
  pub made : changed_pair_content disk at changes ≡ Some whole
  pub logged : IsWellFormed whole
  pub parts : IsContentCut disk.block_size disk.page whole fresh front back
  pub apart : AreApart at fresh
  pub front_ready : IsReady disk.block_size disk.page front
  pub back_ready : IsReady disk.block_size disk.page back

pub is_splitting : {geometry here : Geometry} {blocks : Blocks} {history : List CallEvent} {pair : Pair} {fresh : ℕ × ℕ} {block : List ℕ} {changes : List ContentChange} {whole front back : RawContent}
    → here ≡ geometry → length blocks ≡ geometry.block_count → CanSplitPair (disk_of_blocks geometry blocks) history pair fresh changes → block ≡ block_bytes blocks pair.active
    → changed_log_content block changes ≡ Some whole → IsWellFormed whole → IsContentCut here.block_size here.page whole fresh front back
    → IsSplitting (disk_of_blocks geometry blocks) (header_address pair) fresh changes front back
is_splitting {geometry} {blocks = blocks} {history = history} {pair = pair} {fresh = fresh} {block = block} {changes = changes} {whole = whole} {front = front} {back = back} same count can is made_is_whole logged cut =
    let commit = can.commit in
    let made = made_here (disk_of_blocks geometry blocks) history pair commit.held block changes (Some whole) commit.is_pair is made_is_whole in
    let whole_is : commit.new ≡ whole = some_same (sym (made_is (disk_of_blocks geometry blocks) history pair commit.held changes commit.is_pair ∙ commit.changed) ∙ made) in
    let names = subst (λ (c : RawContent). AreNamed c.slots) whole_is commit.names in
    let parts = subst (λ (k : Geometry). IsContentCut k.block_size k.page whole fresh front back) same cut in
    let few = geometry.valid.no_more in
    record {
      whole = whole;
      made = made;
      logged = logged;
      parts = parts;
      apart = can.apart;
      front_ready = front_ready parts logged names (omega (arith, can.fresh_is.first, count, few)) (omega (arith, can.fresh_is.second, count, few));
      back_ready = back_ready parts logged names;
    }

-- ---- what a stop leaves before it is done

still_elsewhere : (old : Disk) (at fresh : ℕ × ℕ) (left : Blocks) → AreApart at fresh → KeepsOutsidePair fresh old.blocks left → HasOldContent old at (record old { blocks = left })
still_elsewhere old at fresh left apart same = record {
  content = raw_content-stays old (pair_elsewhere apart) same;
  first = λ e h. subst (λ o. HasFirstLogEntry o e) (sym (current_block-stays old (pair_elsewhere apart) same)) h;
}

pub first_while_fresh : (old : Disk) (at fresh : ℕ × ℕ) (left : Blocks) → AreApart at fresh → KeepsOutsidePair fresh old.blocks left → (e : LogEntry) → HasFirstLogEntry (current_block old at) e
    → HasFirstLogEntry (current_block (record old { blocks = left }) at) e
first_while_fresh old at fresh left apart same = (still_elsewhere old at fresh left apart same).first

-- the first entry stays if the fresh pair was written first
pub first_behind : (old : Disk) (at fresh : ℕ × ℕ) (mid left : Blocks) (new : RawContent) → AreApart at fresh → KeepsOutsidePair fresh old.blocks mid
    → KeepsFirstEntry (record old { blocks = mid }) at (Some new) (record old { blocks = left }) → KeepsFirstEntry old at (Some new) (record old { blocks = left })
first_behind old at fresh mid left new apart same keeps e h anew = keeps e ((still_elsewhere old at fresh mid apart same).first e h) anew

pub left_while_fresh : (old : Disk) (at fresh : ℕ × ℕ) (changes : List ContentChange) (left : Blocks) → AreApart at fresh → KeepsOutsidePair fresh old.blocks left → LossLeavesSplit old at fresh changes left
left_while_fresh old at fresh changes left apart same = record { others = keeps_by_fresh at fresh same; content = inl (still_elsewhere old at fresh left apart same) }

pub left_while_old : (old : Disk) (at fresh : ℕ × ℕ) (changes : List ContentChange) (mid left : Blocks) {whole front back : RawContent} → AreApart at fresh → KeepsOutsidePair fresh old.blocks mid
    → changed_pair_content old at changes ≡ Some whole → IsWellFormed whole → IsContentCut old.block_size old.page whole fresh front back → raw_content (record old { blocks = mid }) fresh ≡ Some back
    → LossLeavesNew (record old { blocks = mid }) at front left → LossLeavesSplit old at fresh changes left
left_while_old old at fresh changes mid left {whole} {front} apart same made logged parts held stopped = record {
  others = keeps_by_both at fresh same stopped.others;
  content = elim stopped.content [
    | inl was ↦ inl (record {
      content = was.content ∙ raw_content-stays old (pair_elsewhere apart) same;
      first = λ e h. was.first e ((still_elsewhere old at fresh mid apart same).first e h);
    })
    | inr is ↦ inr (record {
      new = whole;
      made = made;
      logged = logged;
      cut = parts.cut;
      is_cut = parts.is_cut;
      inside = cut_inside parts.is_cut;
      front = subst (λ c. HasNewContent old at c (record old { blocks = left })) parts.front_is (record { content = is.content; first = first_behind old at fresh mid left front apart same is.first });
      back = raw_content-stays (record old { blocks = mid }) (fresh_elsewhere apart) stopped.others ∙ held ∙ ap Some parts.back_is;
    })
  ];
}
