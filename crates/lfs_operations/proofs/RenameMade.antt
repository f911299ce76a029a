-- A pair from which slots are deleted, and in which one is created under another name.
use Rattle.lfs_operations.proofs.Common.{ℕ, ◌≡◌, ◌⊎◌, inl, inr, ◌<◌, zero, suc, true, List, [], ◌∷◌, ◌++◌, length, Option, Some, refl, sym, ap, ap₂, subst, ◌∙◌, arith, append_assoc, insert, remove, length-append, sum_by, sum_by-append, sum_by-cons, ContentChange, content_with_changes, RawContent, RawSlot, decoded_slots, decoded_content, empty_raw_content, raw_content, slot_of_id, AreSplittable, IsDirectoryPair, HasName, IsWellFormedSlot, Name, is_valid_name, PairContent, FitsInPair, Slot, slot_size, Pair, tail_target, IsWritableEntry, complete_insert, complete_length, complete_remove, completed_from, completed_parts, deletes, does_first, content_cut, entry_small, insert_here, remove_here, logged_changed, changed_pair_content, KeptThread, complete_after, thread_pair, unwrap_or, option_and_then, AreWellFormed, CanCommitOrSplit, IsLogContentDecodable, IsRecoveredWritableImage, NamelessSlot, slot_without_name_at, slot_without_name, slot_creation_changes, None, is_some, append-nil, Delete, PutMove, IsPositionOfName, CanEditIn, IsFileOrDirectory, Site, site, each_right, MoveStateFits, Gstate, IsCompleted, puts_move, CanChangePair, target_slots, removal_changes, Each}
use Rattle.lfs_operations.proofs.Held.{CompletesTo, below, fits_there, here, raw_there, IsEntryIfOther, each_pair, other_entries}
use Rattle.lfs_model.proofs.RawSlots.{IsRaw, is_raw}
use Rattle.lfs_model.proofs.SlotParts.{IsOf, is_of, name_length, slot_comes, slot_of_parts, with_slot}
use Rattle.lfs_operations.proofs.MovTurned.{content_with}
use Rattle.lfs_operations.proofs.PairAt.{HasPairAt, pair_at}

-- ---- two places among slots

-- the place, at which the target stands, if there is one, is behind the slot
pub record ComesBehind (xs : List Slot) (u : Slot) (ys left : List Slot) (target : Option Slot) (right : List Slot) : Type 0 where
  pub passed : List Slot
  pub front : left ≡ xs ++ u ∷ passed
  pub back : ys ≡ passed ++ (target_slots target ++ right)

-- or in front of it
pub record ComesAhead (xs : List Slot) (u : Slot) (ys left : List Slot) (target : Option Slot) (right : List Slot) : Type 0 where
  pub passed : List Slot
  pub front : xs ≡ left ++ (target_slots target ++ passed)
  pub back : right ≡ passed ++ u ∷ ys

pub behind_or_ahead : (xs : List Slot) (u : Slot) (ys left : List Slot) (target : Option Slot) (right : List Slot) → Each (λ s. s ≡ u → ⊥) (target_slots target) → xs ++ u ∷ ys ≡ left ++ (target_slots target ++ right)
    → ComesBehind xs u ys left target right ⊎ ComesAhead xs u ys left target right
behind_or_ahead xs u ys [] None right apart e = inr (record { passed = xs; front = refl; back = sym e })
behind_or_ahead [] u ys [] (Some g) right apart e = absurd (apart.0 cc)
behind_or_ahead (x ∷ xs) u ys [] (Some g) right apart e = inr (record { passed = xs; front = cc; back = cc })
behind_or_ahead [] u ys (a ∷ left) target right apart e = inl (record { passed = left; front = cc; back = cc })
behind_or_ahead (x ∷ xs) u ys (a ∷ left) target right apart e = go (behind_or_ahead xs u ys left target right apart cc)
  where
    first : a ≡ x
    first = cc

    go : ComesBehind xs u ys left target right ⊎ ComesAhead xs u ys left target right → ComesBehind (x ∷ xs) u ys (a ∷ left) target right ⊎ ComesAhead (x ∷ xs) u ys (a ∷ left) target right
    go (inl b) = inl (record { passed = b.passed; front = ap₂ (λ z zs. z ∷ zs) first b.front; back = b.back })
    go (inr b) = inr (record { passed = b.passed; front = ap₂ (λ z zs. z ∷ zs) (sym first) b.front; back = b.back })

-- ---- slots go

pub fits_without : (block_size page : ℕ) (c : PairContent) (xs : List Slot) (u : Slot) (ys : List Slot) → c.slots ≡ xs ++ u ∷ ys → FitsInPair block_size page c
    → FitsInPair block_size page (record c { slots = xs ++ ys })
fits_without block_size page c xs u ys e f =
    let a = ap (sum_by slot_size) e in
    let b = sum_by-append slot_size xs (u ∷ ys) in
    let d = sum_by-cons slot_size u ys in
    let g = sum_by-append slot_size xs ys in
    let h = ap length e in
    let i = length-append xs (u ∷ ys) in
    let k = length-append xs ys in
    let s = f.size in
    let n = f.count in
    record { size = omega arith; count = omega arith }

-- without the target, if there is one
pub fits_left : (block_size page : ℕ) (c : PairContent) (xs : List Slot) (target : Option Slot) (ys : List Slot) → c.slots ≡ xs ++ (target_slots target ++ ys) → FitsInPair block_size page c
    → FitsInPair block_size page (record c { slots = xs ++ ys })
fits_left block_size page c xs None ys e f = subst (λ z. FitsInPair block_size page (record c { slots = z })) e f
fits_left block_size page c xs (Some g) ys e f = fits_without block_size page c xs g ys e f

-- What slots are left of a content by changes, and which delta of the global state.
pub record Leaves (c : RawContent) (changes : List ContentChange) (slots : List Slot) (delta : Gstate) : Type 0 where
  pub left : RawContent
  pub does : (rest : List ContentChange) (e : RawContent) → content_with_changes left rest ≡ Some e → content_with_changes c (changes ++ rest) ≡ Some e
  pub are : decoded_slots left.slots ≡ Some slots
  pub tail : left.tail ≡ c.tail
  pub move : left.move ≡ delta

-- one more slot goes
pub leaves_without : {c : RawContent} {front : List ContentChange} {delta : Gstate} (xs : List Slot) (u : Slot) (ys : List Slot) → Leaves c front (xs ++ u ∷ ys) delta → (id : ℕ) → id < 0x3ff → length xs ≡ id
    → Leaves c (front ++ Delete id ∷ []) (xs ++ ys) delta
leaves_without {c = c} {front = front} xs u ys k id small number = record {
  left = record k.left { slots = remove k.left.slots id };
  does = λ rest d h. subst (λ (z : List ContentChange). content_with_changes c z ≡ Some d) (sym (append_assoc front (Delete id ∷ []) rest)) (k.does (Delete id ∷ rest) d
      (does_first (Delete id) rest k.left (record k.left { slots = remove k.left.slots id }) d
      (deletes k.left id small (let l = complete_length k.left.slots (xs ++ u ∷ ys) k.are in let m = length-append xs (u ∷ ys) in omega arith)) h));
  are = complete_remove k.left.slots (xs ++ u ∷ ys) id k.are ∙ ap (λ (i : ℕ). Some (remove (xs ++ u ∷ ys) i)) (sym number) ∙ ap Some (remove_here xs ys u);
  tail = k.tail;
  move = k.move;
}

-- so does the target, if there is one
pub leaves_target : {c : RawContent} {front : List ContentChange} {delta : Gstate} (xs : List Slot) (target : Option Slot) (ys : List Slot) → Leaves c front (xs ++ (target_slots target ++ ys)) delta → (at : ℕ) → at < 0x3ff → length xs ≡ at
    → Leaves c (front ++ removal_changes (is_some target) at) (xs ++ ys) delta
leaves_target {c = c} {front = front} {delta = delta} xs None ys k at small number = subst (λ z. Leaves c z (xs ++ ys) delta) (sym (append-nil front)) k
leaves_target xs (Some g) ys k at small number = leaves_without xs g ys k at small number

-- ---- in a pair

-- The pair has that number, and what its log comes to is well formed.
pub record IsLoggedPair (t : KeptThread) (index : ℕ) (p : Pair) : Type 0 where
  pub ready : IsRecoveredWritableImage t
  pub first : ℕ
  pub rest : List Pair
  pub place : IsDirectoryPair t.pairs first index p rest
  pub logged : IsLogContentDecodable t.disk (thread_pair t index).at

-- what the log of a pair says of a slot
pub record Source (t : KeptThread) (pair id : ℕ) (u : Slot) : Type 0 where
  pub raw : RawSlot
  pub is : slot_without_name_at t pair id ≡ slot_without_name raw
  pub of : IsOf raw u

-- ---- where an entry stands

-- an entry at a place is one of the tree
pub entry_at : {t : KeptThread} {first index id : ℕ} {name : Name} → IsRecoveredWritableImage t → (to : IsPositionOfName t.pairs first name index id) → IsFileOrDirectory to.stands.slot
entry_at {t = t} {first = first} {index = index} ready to =
    let all = each_pair t ready first index to.pair to.rest to.place (λ x. Each IsEntryIfOther x.content.slots) (other_entries t.disk t.pairs ready.accepted) in
    (each_right IsEntryIfOther to.stands.left (to.stands.slot ∷ to.stands.right) (subst (Each IsEntryIfOther) to.stands.held all)).0 to.stands.entry

-- so another one may have its name
pub name_at : {t : KeptThread} {first index id : ℕ} {name : Name} → IsRecoveredWritableImage t → IsPositionOfName t.pairs first name index id → is_valid_name name ≡ true
name_at ready to = ap is_valid_name (sym to.stands.named) ∙ (entry_at ready to).name

abbrev pub logged_of : {t : KeptThread} {index id : ℕ} (can : CanEditIn t index id) → IsLoggedPair t index can.stands.pair
logged_of can = record { ready = can.ready; first = can.first; rest = can.stands.rest; place = can.stands.place; logged = can.logged }

abbrev pub site_of : {t : KeptThread} {index id : ℕ} → CanEditIn t index id → Site
site_of {t = t} {index = index} can = site t.disk t.pairs can.path can.at can.ready.accepted can.leads can.first index can.stands.pair can.stands.rest can.stands.place can.begins

pub stand_of : {t : KeptThread} {index id : ℕ} (can : CanEditIn t index id) → HasPairAt t index can.path can.at (site_of can) can.stands.pair
stand_of {t = t} {index = index} can = pair_at t can.ready can.path can.at can.leads can.first index can.stands.pair can.stands.rest can.stands.place can.begins

-- ---- what the changes make

parts_in : (xs : List RawSlot) (i : ℕ) → AreWellFormed xs → i < length xs → IsWellFormedSlot (slot_of_id xs i)
parts_in [] i h l = absurd (omega arith)
parts_in (x ∷ xs) zero h l = h.0
parts_in (x ∷ xs) (suc i) h l = parts_in xs i h.1 (omega arith)

module _ {t : KeptThread} {index : ℕ} {p : Pair} (k : IsLoggedPair t index p) where
  pub pair_here : thread_pair t index ≡ p
  pair_here = here t k.ready k.first index p k.rest k.place

  abbrev pub c : CompletesTo (raw_content t.disk (thread_pair t index).at) p.content
  c = raw_there t k.ready k.first index p k.rest k.place

  parts : IsCompleted c.raw p.content
  parts = completed_parts c.raw p.content c.complete

  pub fits_whole : FitsInPair t.disk.block_size t.disk.page p.content
  fits_whole = fits_there t k.ready k.first index p k.rest k.place

  pub delta_fits : MoveStateFits (thread_pair t index).content.move
  delta_fits = subst MoveStateFits (sym parts.move ∙ ap (λ (x : Pair). x.content.move) (sym pair_here)) (k.logged c.raw c.is).move

  -- all slots are left, with the same delta or with another
  pub leaves_all : Leaves c.raw [] p.content.slots p.content.move
  leaves_all = record { left = c.raw; does = λ rest e h. h; are = parts.slots; tail = refl; move = sym parts.move }

  pub leaves_turned : (move : Gstate) → MoveStateFits move → Leaves c.raw (PutMove move ∷ []) p.content.slots move
  leaves_turned move fits = record {
    left = record c.raw { move = move };
    does = λ rest e h. does_first (PutMove move) rest c.raw (record c.raw { move = move }) e (puts_move c.raw move fits) h;
    are = parts.slots;
    tail = refl;
    move = refl;
  }

  pub within : {was : Name} {id : ℕ} → HasName p.content.slots was id → id < length p.content.slots
  within s = let h = ap length s.held in let m = length-append s.left (s.slot ∷ s.right) in let n = s.number in omega arith

  pub source : {was : Name} {id : ℕ} (s : HasName p.content.slots was id) → Source t index id s.slot
  source {id = id} s =
      let raw : IsRaw c.raw.slots s.left s.slot = is_raw c.raw.slots s.left s.slot s.right (parts.slots ∙ ap Some s.held) in
      let there : slot_of_id c.raw.slots id ≡ raw.here = ap (slot_of_id c.raw.slots) (sym s.number) ∙ raw.there in
      record {
        raw = raw.here;
        is = ap (λ (o : Option RawContent). slot_without_name (slot_of_id (unwrap_or o empty_raw_content).slots id)) c.is ∙ ap slot_without_name there;
        of = is_of raw.here s.slot
            (subst IsWellFormedSlot there (parts_in c.raw.slots id (k.logged c.raw c.is).slots (let l = complete_length c.raw.slots p.content.slots parts.slots in let w = within s in omega arith))) raw.is s.entry;
      }

  -- the slots that are left are cut where one comes
  module _ {pair id : ℕ} {u : Slot} (from : Source t pair id u) {front : List ContentChange} {delta : Gstate} (a b : List Slot) (left : Leaves c.raw front (a ++ b) delta)
      (fits_rest : FitsInPair t.disk.block_size t.disk.page (record p.content { slots = a ++ b })) (at : ℕ) (number : length a ≡ at) (name : Name) (named : is_valid_name name ≡ true)
      (fits : IsWritableEntry t.disk.profile t.disk.block_size t.disk.page (record u { name = name })) where
    abbrev changes : List ContentChange
    changes = front ++ slot_creation_changes at name (slot_without_name_at t pair id)

    abbrev moved : Slot
    moved = record u { name = name }

    abbrev raw_now : RawContent
    raw_now = with_slot left.left at (slot_of_parts name (slot_without_name from.raw))

    abbrev now : PairContent
    now = content_with p (a ++ moved ∷ b) delta

    changed_now : content_with_changes c.raw changes ≡ Some raw_now
    changed_now =
        let n = fits_rest.count in
        let m = length-append a b in
        let l = complete_length left.left.slots (a ++ b) left.are in
        left.does (slot_creation_changes at name (slot_without_name_at t pair id)) raw_now
        (ap (λ (z : NamelessSlot). content_with_changes left.left (slot_creation_changes at name z)) from.is
        ∙ slot_comes left.left at name (slot_without_name from.raw) (omega arith) (omega arith) (name_length name named) from.of.are)

    made_raw : changed_pair_content t.disk (thread_pair t index).at changes ≡ Some raw_now
    made_raw = ap (λ o. option_and_then (λ (x : RawContent). content_with_changes x changes) o) c.is ∙ changed_now

    slots_now : decoded_slots raw_now.slots ≡ Some (a ++ moved ∷ b)
    slots_now = complete_insert left.left.slots (a ++ b) at (slot_of_parts name (slot_without_name from.raw)) moved left.are (from.of.complete name) ∙ ap (λ (i : ℕ). Some (insert (a ++ b) i moved)) (sym number)
        ∙ ap Some (insert_here a b moved)

    now_complete : decoded_content raw_now ≡ Some now
    now_complete = completed_from raw_now (a ++ moved ∷ b) slots_now ∙ ap₂ (λ t m. Some (record { slots = a ++ moved ∷ b; tail = t; move = m })) (left.tail ∙ sym parts.tail) left.move

    pub made : complete_after t index (front ++ slot_creation_changes at name (slot_without_name_at t pair id)) ≡ Some (content_with p (a ++ record u { name = name } ∷ b) delta)
    made = ap (λ o. option_and_then decoded_content o) made_raw ∙ now_complete

    cut : AreSplittable t.disk.block_size t.disk.page raw_now.slots
    cut = content_cut t.disk.block_size t.disk.page raw_now now a moved b (logged_changed c.raw changes raw_now (k.logged c.raw c.is) changed_now) now_complete refl
        (entry_small t.disk.profile t.disk.block_size t.disk.page moved k.ready.large fits)
        (let f = fits_rest.size in let m = sum_by-append slot_size a b in omega arith)
        (let n = fits_rest.count in let m = length-append a b in omega arith)

    pub can_change : CanChangePair t index (front ++ slot_creation_changes at name (slot_without_name_at t pair id))
    can_change = record {
      below = below t k.ready k.first index p k.rest k.place;
      content = now;
      made = made;
      next = ap (λ (z : Pair). tail_target z.content.tail) (sym pair_here);
    }

    pub can_put : CanCommitOrSplit t index (front ++ slot_creation_changes at name (slot_without_name_at t pair id))
    can_put = record { can = can_change; raw = raw_now; made = made_raw; cut = cut }
