-- From the premises that an operation's checks have shown to those of its steps.
use Rattle.std.proofs.Common.{ℕ, ◌≡◌, ◌≢◌, ◌<◌, ◌∙◌, ◌&&◌, Bool, true, false, zero, suc, [], ◌∷◌, length, Some, refl, sym, ap₂, subst, arith, set, length-set}
use Rattle.std.specs.Prelude.{slice_get}
use Rattle.lfs_tree.proofs.Common.{list_all, min-le_right, ltb-false, same_Some, last_name, BlockStates, IsFree, state_in_flight, Free, InFlight, is_component, is_valid_name, profile_name_max, DiskSummary, has_long_name, Path, slice_get-set_other, slice_get-set_same, used_count-AreUsed, HasTwoFreeBlocks, HasFreeBlocks, KeptThread, HasNeededBlocks, uncached_state, IsSoundState}
use Rattle.std.proofs.lemmas.Bool.{le-leb}
use Rattle.lfs_model.specs.layers.BlockSets.{is_used}
use Rattle.lfs_model.proofs.BlockSets.{count_by-set, counts_from_none_free}
use Rattle.lfs_operations.specs.Changing.{AreTwoFreeBlocks}

-- ---- room

pub room_for : (t : KeptThread) (need : ℕ) → IsSoundState (uncached_state t true false) → HasNeededBlocks (uncached_state t true false) need → HasFreeBlocks need t.map
room_for t need sound room =
    let e = used_count-AreUsed t.map _ sound.accepted.owned_once sound.used in
    let l = sound.size in
    omega (arith, room)

within : (sets : BlockStates) (b : ℕ) → IsFree sets b → b < length sets
within [] b e = absurd (cc)
within (x ∷ sets) zero e = omega arith
within (x ∷ sets) (suc b) e = let l = within sets b e in omega arith

two_free : (sets : BlockStates) (a b : ℕ) → IsFree sets a → IsFree (set sets a InFlight) b → AreTwoFreeBlocks sets (a, b)
two_free sets a b first second = record { apart = apart; first = first; second = sym (slice_get-set_other sets a b InFlight (λ e. apart (sym e))) ∙ second }
  where
    apart : a ≢ b
    apart e = let k = same_Some InFlight Free (sym (slice_get-set_same sets a InFlight (within sets a first)) ∙ subst (λ z. slice_get (set sets a InFlight) z ≡ Some Free) (sym e) second) in absurd (cc)

-- if there is room for two blocks, two are free
pub no_room : (sets : BlockStates) → HasFreeBlocks 2 sets → (HasTwoFreeBlocks sets → ⊥) → ⊥
no_room sets room none = not_none (λ a free. go a free)
  where
    not_none : ((b : ℕ) → IsFree sets b → ⊥) → ⊥
    not_none f = let e = counts_from_none_free sets f in absurd (omega (arith, room))

    go : (a : ℕ) → IsFree sets a → ⊥
    go a free =
        let one : BlockStates = set sets a InFlight in
        let u = count_by-set is_used sets a Free InFlight free in
        let i = count_by-set state_in_flight sets a Free InFlight free in
        let l = length-set sets a InFlight in
        let e = counts_from_none_free one (λ b other. none ((a, b), two_free sets a b free other)) in
        absurd (omega (arith, room))

-- ---- names

last_component : (path : Path) → path ≢ [] → list_all is_component path ≡ true → is_component (last_name path) ≡ true
last_component [] some all = absurd (some refl)
last_component (n ∷ []) some all = first_holds (is_component n) true all
  where
    first_holds : (x y : Bool) → (x && y) ≡ true → x ≡ true
    first_holds true y e = refl
    first_holds false y e = absurd (cc)
last_component (n ∷ m ∷ path) some all = last_component (m ∷ path) (λ e. absurd (cc)) (behind (is_component n) (list_all is_component (m ∷ path)) all)
  where
    behind : (x y : Bool) → (x && y) ≡ true → y ≡ true
    behind true y e = e
    behind false y e = absurd (cc)

pub last_is_name : (around : DiskSummary) (path : Path) → path ≢ [] → list_all is_component path ≡ true → has_long_name around path ≡ false → is_valid_name (last_name path) ≡ true
last_is_name around path some all long =
    let n = length (last_name path) in
    let short = ltb-false (profile_name_max around.profile) n long in
    let most = min-le_right around.profile.name_max 255 in
    ap₂ (λ x y. x && y) (last_component path some all) (le-leb n 255 (omega arith))
