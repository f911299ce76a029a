-- An entry that moves within its pair, and may replace another one: the content of the pair after the changes, and the slots
-- that they replace.
use Rattle.lfs_operations.proofs.Common.{ℕ, ◌≡◌, true, List, [], ◌∷◌, ◌++◌, length, Some, sym, ap, subst, ◌∙◌, arith, append_assoc, length-append, refl, Delete, HasName, Name, is_valid_name, FitsInPair, Slot, Pair, IsFileOrDirectory, Each, KeptThread, ◌≢◌, CanEditIn, id_after_removal, PairHasSlotId, ◌⊎◌, inl, inr, ◌-◌, ◌<◌, ◌≤◌, cond, false, Option, is_some, le-ltb, lt-ltb, ContentChange, Gstate, begins_with_superblock, IsWritableEntry, some_filled, Site, CanChangePair, CanCommitOrSplit, complete_after, PairContent, slot_without_name_at, slot_creation_changes, target_slots, removal_changes}
use Rattle.lfs_operations.proofs.Held.{below, here}
use Rattle.lfs_operations.proofs.RenameMade.{ComesBehind, Leaves, fits_without, leaves_without, ComesAhead, IsLoggedPair, Source, behind_or_ahead, fits_left, fits_whole, leaves_target, source}
use Rattle.lfs_operations.proofs.RenameMade as pair
use Rattle.lfs_operations.proofs.RenamePlaced.{with_name, IsPlaced, carries_ahead, carries_behind}
use Rattle.lfs_operations.proofs.MovTurned.{content_with}
use Rattle.lfs_operations.proofs.PairAt.{HasPairAt}

place_behind_is : (id place : ℕ) → id < place → id_after_removal id place ≡ place - 1
place_behind_is id place less = ap (λ b. cond b (place - 1) place) (lt-ltb id place less)

place_ahead_is : (id place : ℕ) → place ≤ id → id_after_removal id place ≡ place
place_ahead_is id place le = ap (λ b. cond b (place - 1) place) (le-ltb id place le)

pub has_slot : {t : KeptThread} {index id : ℕ} → CanEditIn t index id → PairHasSlotId t index id
has_slot {t = t} {index = index} can =
    let s = can.stands.stands in
    let e = ap (λ (z : Pair). length z.content.slots) (here t can.ready can.first index can.stands.pair can.stands.rest can.stands.place) in
    let h = ap length s.held in
    let k = length-append s.left (s.slot ∷ s.right) in
    let n = s.number in
    record { below = below t can.ready can.first index can.stands.pair can.stands.rest can.stands.place; there = omega arith }

-- The entry and the place stand in the pair p at the site w. The place is between l and r, where the target stands, if there is
-- one. The entry may have the name.
pub record IsPlaceInPair (t : KeptThread) (index id place : ℕ) (can : CanEditIn t index id) (w : Site) (p : Pair) (l : List Slot) (target : Option Slot) (r : List Slot) (name : Name) : Type 0 where
  pub logged : IsLoggedPair t index p
  pub stand : HasPairAt t index can.path can.at w p
  pub held : p.content.slots ≡ can.stands.stands.left ++ can.stands.stands.slot ∷ can.stands.stands.right
  pub was : p.content.slots ≡ l ++ (target_slots target ++ r)
  pub number : length l ≡ place
  pub front : begins_with_superblock (target_slots target ++ r) ≡ false
  pub apart : Each (λ s. s ≡ can.stands.stands.slot → ⊥) (target_slots target)
  pub named : is_valid_name name ≡ true
  pub fits : IsWritableEntry t.disk.profile t.disk.block_size t.disk.page (record can.stands.stands.slot { name = name })

-- these slots are left, in front of the place and behind it, without the entry and the target
abbrev pub IsLeftOver : {t : KeptThread} {index id : ℕ} → CanEditIn t index id → ℕ → Option Slot → List Slot → List Slot → Type 0
IsLeftOver {id = id} can place target x y = (can.stands.stands.left ++ can.stands.stands.right ≡ x ++ (target_slots target ++ y)) × (length x ≡ id_after_removal id place)

-- The slots that are replaced, and those by which they are. Something follows of a step that does so.
pub record IsMoving (t : KeptThread) (index id place : ℕ) (can : CanEditIn t index id) (w : Site) (p : Pair) (target : Option Slot) (name : Name) (changes : List ContentChange) (move : Gstate)
    (Follows : List Slot → List Slot → List Slot → List Slot → Type 0) : Type 1 where
  pub x : List Slot
  pub y : List Slot
  pub over : IsLeftOver can place target x y
  pub l : List Slot
  pub olds : List Slot
  pub news : List Slot
  pub r : List Slot
  pub placed : IsPlaced t index changes w p l olds news r (target_slots target) can.stands.stands.slot (with_name can.stands.stands.slot name)
  pub is_content : placed.content ≡ content_with p (x ++ with_name can.stands.stands.slot name ∷ y) move
  pub follows : Follows l olds news r

-- the changes: a delta or none, the slots are removed, and the entry's comes again
abbrev pub moved_changes : Option Slot → List ContentChange → KeptThread → ℕ → ℕ → ℕ → Name → List ContentChange
moved_changes target turn t index id place name = ((turn ++ Delete id ∷ []) ++ removal_changes (is_some target) (id_after_removal id place)) ++ slot_creation_changes (id_after_removal id place) name (slot_without_name_at t index id)

module _ {t : KeptThread} {index id place : ℕ} {can : CanEditIn t index id} {w : Site} {p : Pair} {l : List Slot} {target : Option Slot} {r : List Slot} {name : Name} (k : IsPlaceInPair t index id place can w p l target r name)
    {turn : List ContentChange} {move : Gstate} (whole : Leaves (pair.c k.logged).raw turn p.content.slots move) where
  abbrev s : HasName p.content.slots can.name id
  s = record { left = can.stands.stands.left; slot = can.stands.stands.slot; right = can.stands.stands.right; held = k.held; number = can.stands.stands.number; entry = can.stands.stands.entry; named = can.stands.stands.named }

  abbrev v : Slot
  v = with_name s.slot name

  abbrev at : ℕ
  at = id_after_removal id place

  abbrev gone : List Slot
  gone = target_slots target

  from : Source t index id s.slot
  from = source k.logged s

  -- ---- the slots that are left

  module _ (x y : List Slot) (over : IsLeftOver can place target x y) where
    fits_one : FitsInPair t.disk.block_size t.disk.page (record p.content { slots = x ++ (target_slots target ++ y) })
    fits_one = subst (λ z. FitsInPair t.disk.block_size t.disk.page (record p.content { slots = z })) over.0 (fits_without t.disk.block_size t.disk.page p.content s.left s.slot s.right k.held (fits_whole k.logged))

    fits_both : FitsInPair t.disk.block_size t.disk.page (record p.content { slots = x ++ y })
    fits_both = fits_left t.disk.block_size t.disk.page (record p.content { slots = x ++ (gone ++ y) }) x target y refl fits_one

    left_both : Leaves (pair.c k.logged).raw ((turn ++ Delete id ∷ []) ++ removal_changes (is_some target) (id_after_removal id place)) (x ++ y) move
    left_both =
        let few = (fits_whole k.logged).count in
        let i = pair.within k.logged s in
        let n = fits_one.count in
        let m = length-append x (gone ++ y) in
        let o = over.1 in
        leaves_target x target y
        (subst (λ z. Leaves (pair.c k.logged).raw (turn ++ Delete id ∷ []) z move) over.0
        (leaves_without s.left s.slot s.right (subst (λ z. Leaves (pair.c k.logged).raw turn z move) k.held whole) id (omega arith) s.number)) at (omega arith) over.1

    pub made_over : complete_after t index (moved_changes target turn t index id place name) ≡ Some (content_with p (x ++ with_name s.slot name ∷ y) move)
    made_over = pair.made k.logged from x y left_both fits_both at over.1 name k.named k.fits

    pub can_change_over : CanChangePair t index (moved_changes target turn t index id place name)
    can_change_over = pair.can_change k.logged from x y left_both fits_both at over.1 name k.named k.fits

    pub can_put_over : CanCommitOrSplit t index (moved_changes target turn t index id place name)
    can_put_over = pair.can_put k.logged from x y left_both fits_both at over.1 name k.named k.fits

  entry_again : IsFileOrDirectory s.slot → IsFileOrDirectory v
  entry_again e = record { name = k.named; struct = e.struct }

  -- ---- the slots that are replaced

  module _ (Follows : List Slot → List Slot → List Slot → List Slot → Type 0)
      (behind : (passed : List Slot) → l ≡ s.left ++ s.slot ∷ passed → Follows s.left (s.slot ∷ (passed ++ target_slots target)) (passed ++ with_name s.slot name ∷ []) r)
      (ahead : (passed : List Slot) → r ≡ passed ++ s.slot ∷ s.right → Follows l (target_slots target ++ (passed ++ s.slot ∷ [])) (with_name s.slot name ∷ passed) s.right) where
    abbrev Moving : Type 1
    Moving = IsMoving t index id place can w p target name (moved_changes target turn t index id place name) move Follows

    moving_behind : ComesBehind s.left s.slot s.right l target r → Moving
    moving_behind d = record {
      x = s.left ++ d.passed;
      y = r;
      over = over;
      l = s.left;
      olds = s.slot ∷ (d.passed ++ gone);
      news = d.passed ++ v ∷ [];
      r = r;
      placed = record {
        ready = can.ready;
        there = k.stand.there;
        place = k.stand.number;
        site = k.stand.site;
        content = content_with p ((s.left ++ d.passed) ++ v ∷ r) move;
        made = made_over (s.left ++ d.passed) r over;
        tail = refl;
        was = k.held ∙ ap (λ z. s.left ++ s.slot ∷ z) (d.back ∙ sym (append_assoc d.passed gone r));
        now = append_assoc s.left d.passed (v ∷ r) ∙ ap (λ z. s.left ++ z) (sym (append_assoc d.passed (v ∷ []) r));
        front = s.entry;
        carries = carries_behind s.slot name d.passed gone;
        entry = entry_again;
        struct = refl;
        other = s.entry;
        fits = k.fits;
      };
      is_content = refl;
      follows = behind d.passed d.front;
    }
      where
        over : IsLeftOver can place target (s.left ++ d.passed) r
        over = (
          ap (λ z. s.left ++ z) d.back ∙ sym (append_assoc s.left d.passed (gone ++ r)),
          (let n = s.number in
              let m = k.number in
              let e = ap length d.front in
              let f = length-append s.left (s.slot ∷ d.passed) in
              let g = length-append s.left d.passed in
              let q = place_behind_is id place (omega arith) in
              omega arith),
        )

    moving_ahead : ComesAhead s.left s.slot s.right l target r → Moving
    moving_ahead d = record {
      x = l;
      y = d.passed ++ s.right;
      over = over;
      l = l;
      olds = gone ++ (d.passed ++ s.slot ∷ []);
      news = v ∷ d.passed;
      r = s.right;
      placed = record {
        ready = can.ready;
        there = k.stand.there;
        place = k.stand.number;
        site = k.stand.site;
        content = content_with p (l ++ v ∷ (d.passed ++ s.right)) move;
        made = made_over l (d.passed ++ s.right) over;
        tail = refl;
        was = k.was ∙ ap (λ z. l ++ z) whole_is;
        now = refl;
        front = ap begins_with_superblock (sym whole_is) ∙ k.front;
        carries = carries_ahead s.slot name gone d.passed;
        entry = entry_again;
        struct = refl;
        other = s.entry;
        fits = k.fits;
      };
      is_content = refl;
      follows = ahead d.passed d.back;
    }
      where
        whole_is : gone ++ r ≡ (gone ++ (d.passed ++ s.slot ∷ [])) ++ s.right
        whole_is = ap (λ z. gone ++ z) (d.back ∙ sym (append_assoc d.passed (s.slot ∷ []) s.right)) ∙ sym (append_assoc gone (d.passed ++ s.slot ∷ []) s.right)

        over : IsLeftOver can place target l (d.passed ++ s.right)
        over = (
          ap (λ z. z ++ s.right) d.front ∙ append_assoc l (gone ++ d.passed) s.right ∙ ap (λ z. l ++ z) (append_assoc gone d.passed s.right),
          (let n = s.number in
              let m = k.number in
              let e = ap length d.front in
              let f = length-append l (gone ++ d.passed) in
              let q = place_ahead_is id place (omega arith) in
              omega arith),
        )

    pub moving : IsMoving t index id place can w p target name (moved_changes target turn t index id place name) move Follows
    moving = go (behind_or_ahead s.left s.slot s.right l target r k.apart (sym k.held ∙ k.was))
      where
        go : ComesBehind s.left s.slot s.right l target r ⊎ ComesAhead s.left s.slot s.right l target r → Moving
        go (inl d) = moving_behind d
        go (inr d) = moving_ahead d

-- ---- of all that moves

module _ {t : KeptThread} {index id place : ℕ} {can : CanEditIn t index id} {w : Site} {p : Pair} {target : Option Slot} {name : Name} {changes : List ContentChange} {move : Gstate}
    {Follows : List Slot → List Slot → List Slot → List Slot → Type 0} (m : IsMoving t index id place can w p target name changes move Follows) where
  pub slots_now : m.x ++ with_name can.stands.stands.slot name ∷ m.y ≡ m.l ++ (m.news ++ m.r)
  slots_now = ap (λ (z : PairContent). z.slots) (sym m.is_content) ∙ m.placed.now

  pub filled : m.l ++ (m.news ++ m.r) ≢ []
  filled e = some_filled m.x m.y (with_name can.stands.stands.slot name) (slots_now ∙ e)
