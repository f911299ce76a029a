-- The contents of an open writer over a file that an operation keeps.
use Rattle.std.proofs.Common.{ℕ, ◌≡◌, ◌≤◌, ◌<◌, ◌⊎◌, ⊎_elim, inl, inr, false, List, [], ◌++◌, length, get_or, slice_get, Some, refl, sym, ap, ◌∙◌, subst, arith}
use Rattle.std.specs.Prelude.{Contains}
use Rattle.lfs_tree.proofs.Common.{Contains-append_cases, slice_get-get_or, GrowingList, unwritten_block, growing_size_with, contents_list_blocks, Blocks, block_bytes, BlockStates, BlockState, IsFree, IsInFlight, IsUsedBlock, in_flight_count, Free, InFlight, Used, SameGeometry, blocks_to_head, skip_list_block_count, Operation, Path, few_flying, KeepsFileAt, AreTreeContents, writer_contents_bytes, IsOperationApplied, IsSoundState, KeepsInFlight, TreeState, without_cache, kept_thread, IsTakenNotPending, IsListOrEmpty, blocks_of_list, AreSoundContents, contents_bytes, contents_form, CanEndOver, bytes_over_base, contents_blocks}
use Rattle.lfs_device.specs.declared.geometry.Geometry.{Geometry}
use Rattle.lfs_file.specs.Growing.{lasting_blocks as blocks_kept, growing_size}
use Rattle.lfs_model.specs.layers.Keeping.{vacates_path}
use Rattle.lfs_tree.proofs.ContentsStay.{StayAs, base_list, bytes_stay, hand_bytes_stay, hand_stays, hand_still, list_stays, of_all, stored_stays}
use Rattle.lfs_tree.proofs.KeptFiles.{list_used}
use Rattle.lfs_file.specs.Form.{form_in_flight}
use Rattle.lfs_file.specs.declared.contents.WriterContents.{WriterContents}
use Rattle.lfs_file.specs.declared.contents.WriterContents.TheVariants.{InMemory, Finished, InHand}
use Rattle.lfs_file.specs.declared.stored_list.StoredList.{StoredList}
use Rattle.lfs_file.specs.declared.writes.PendingList.{PendingList}
use Rattle.lfs_file.proofs.Flights.{begun_flying, stored_flying}

-- ---- contents in each form

abbrev pub StandStill : BlockStates → Blocks → Geometry → WriterContents → BlockStates → Blocks → Type 0
StandStill map d now c later e = AreSoundContents later e now c × ((contents_blocks e now.block_size c ≡ contents_blocks d now.block_size c) × (contents_bytes e now.block_size c ≡ contents_bytes d now.block_size c))

hand_still_on : (map later : BlockStates) (d e : Blocks) (now : Geometry) (hand : PendingList) → now ≡ hand.list.geometry → CanEndOver map d now.block_size hand.list hand.base hand.shared
    → StayAs map d (contents_blocks d now.block_size (InHand hand)) later e
    → CanEndOver later e now.block_size hand.list hand.base hand.shared
    × ((contents_blocks e now.block_size (InHand hand) ≡ contents_blocks d now.block_size (InHand hand)) × (bytes_over_base e now.block_size hand.list hand.base ≡ bytes_over_base d now.block_size hand.list hand.base))
hand_still_on map later d e now hand is list stay = (
  hand_stays map later d e now.block_size hand.list hand.base hand.shared list stay,
  (
    ap (λ (l : List ℕ). l ++ blocks_of_list e now.block_size hand.base.head hand.base.size) (hand_still map later d e now.block_size hand.list hand.base hand.shared list stay).kept
        ∙ ap (λ (l : List ℕ). blocks_kept d hand.list ++ l) (base_list map later d e now.block_size hand.list hand.base hand.shared list stay),
    hand_bytes_stay map later d e now.block_size hand.list hand.base hand.shared list stay,
  ),
)

pub stands_still : (map later : BlockStates) (d e : Blocks) (now : Geometry) (c : WriterContents) → StayAs map d (contents_blocks d now.block_size c) later e → AreSoundContents map d now c → StandStill map d now c later e
stands_still map later d e now (InMemory list) stay is = (
  record {
    idle = record { count = stay.size ∙ is.idle.count ∙ sym stay.count; none = λ b flies. is.idle.none b (stay.none_comes b flies) };
    resting = is.resting;
  },
  (refl, refl),
)
stands_still map later d e now (Finished stored) stay is =
    (stored_stays map later d e now.block_size stored stay is, (list_stays map later d e now.block_size stored stay, bytes_stay map later d e now.block_size stored stay))
stands_still map later d e now (InHand hand) stay is =
    let on = hand_still_on map later d e now hand is.geometry (subst (λ (k : Geometry). CanEndOver map d k.block_size hand.list hand.base hand.shared) (sym is.geometry) is.list) stay in (
      record {
        geometry = is.geometry;
        list = subst (λ (k : Geometry). CanEndOver later e k.block_size hand.list hand.base hand.shared) is.geometry on.0;
        some = is.some;
      },
      (on.1.0, subst (λ (k : Geometry). bytes_over_base e k.block_size hand.list hand.base ≡ bytes_over_base d k.block_size hand.list hand.base) is.geometry on.1.1),
    )

-- at most so many blocks are in flight
pub stands_flying : (map : BlockStates) (d : Blocks) (now : Geometry) (c : WriterContents) → AreSoundContents map d now c → in_flight_count map ≤ form_in_flight now.block_size (contents_form c)
stands_flying map d now (InMemory list) is = few_flying [] map (λ b flies. absurd (is.idle.none b flies))
stands_flying map d now (Finished stored) is = stored_flying map d now.block_size stored is
stands_flying map d now (InHand hand) is =
    let list : CanEndOver map d now.block_size hand.list hand.base hand.shared = subst (λ (k : Geometry). CanEndOver map d k.block_size hand.list hand.base hand.shared) (sym is.geometry) is.list in
    let few = begun_flying map d now.block_size hand.list hand.base hand.shared list.begun in
    let many = list.many in
    let e : growing_size_with now.block_size hand.list ≡ growing_size hand.list = ap (λ (k : Geometry). growing_size_with k.block_size hand.list) is.geometry in
    let f = ap (skip_list_block_count now.block_size) e in
    omega arith

-- ---- no block of theirs is free

state_of : (sets : BlockStates) (b : ℕ) → b < length sets → ¬ (IsFree sets b) → IsUsedBlock sets b ⊎ IsInFlight sets b
state_of sets b below taken = go (get_or sets b Free) (slice_get-get_or sets b Free below)
  where
    go : (s : BlockState) → slice_get sets b ≡ Some s → IsUsedBlock sets b ⊎ IsInFlight sets b
    go Free is = absurd (taken is)
    go InFlight is = inr is
    go Used is = inl is

base_below : (d : Blocks) (block_size : ℕ) (s : StoredList) → IsListOrEmpty d block_size s.head s.size → (b : ℕ) → Contains (blocks_of_list d block_size s.head s.size) b → b < length d
base_below d block_size s (inl none) b has = absurd (let k : Contains [] b = subst (λ n. Contains (blocks_of_list d block_size s.head n) b) none has in omega (arith, k.1))
base_below d block_size s (inr list) b has = of_all (λ x. x < length d) (blocks_of_list d block_size s.head s.size) list.blocks.in_range b has

own_state : (map : BlockStates) (d : Blocks) (block_size : ℕ) (g : GrowingList) (base : StoredList) (shared : ℕ) → CanEndOver map d block_size g base shared → (b : ℕ) → Contains (blocks_kept d g) b → IsUsedBlock map b ⊎ IsInFlight map b
own_state map d block_size g base shared hand b has = ⊎_elim
    (λ full. state_of map b (let l = of_all (λ x. x < length d) (blocks_to_head d g.full g.head) hand.begun.growing.chain.in_range b full in omega (arith, l, hand.begun.marked.count))
    (of_all (λ x. ¬ (IsFree map x)) (blocks_kept d g) hand.begun.marked.kept b has))
    (λ pending. inr (of_all (IsInFlight map) (unwritten_block g) hand.begun.marked.pending b pending))
    (Contains-append_cases (blocks_to_head d g.full g.head) (unwritten_block g) b has)

pub held_states : (map : BlockStates) (d : Blocks) (now : Geometry) (c : WriterContents) → AreSoundContents map d now c → (b : ℕ) → Contains (contents_blocks d now.block_size c) b → IsUsedBlock map b ⊎ IsInFlight map b
held_states map d now (InMemory list) is b has = absurd (omega (arith, has.1))
held_states map d now (Finished stored) is b has =
    state_of map b (let l = base_below d now.block_size stored is.base b has in omega (arith, l, is.count)) (of_all (λ x. ¬ (IsFree map x)) (blocks_of_list d now.block_size stored.head stored.size) is.marked b has)
held_states map d now (InHand hand) is b has =
    let list : CanEndOver map d now.block_size hand.list hand.base hand.shared = subst (λ (k : Geometry). CanEndOver map d k.block_size hand.list hand.base hand.shared) (sym is.geometry) is.list in
    ⊎_elim (own_state map d now.block_size hand.list hand.base hand.shared list b)
    (λ base. state_of map b (let l = base_below d now.block_size hand.base list.begun.list b base in omega (arith, l, list.begun.marked.count))
    (of_all (λ x. IsTakenNotPending map (unwritten_block hand.list) x) (blocks_of_list d now.block_size hand.base.head hand.base.size) list.begun.apart b base).0)
    (Contains-append_cases (blocks_kept d hand.list) (blocks_of_list d now.block_size hand.base.head hand.base.size) b has)

-- ---- the contents of a writer

module _ (old new : TreeState) (path : Path) (c : WriterContents) (over : AreTreeContents old path c) (before : IsSoundState old) (sound : IsSoundState new) (geometry : SameGeometry old.disk new.disk) (flight : KeepsInFlight old new)
    (keeps : KeepsFileAt (kept_thread old) (kept_thread new) path) where
  abbrev now : Geometry
  now = over.stands.geometry

  held_here : contents_blocks old.disk.blocks now.block_size c ≡ contents_list_blocks (kept_thread old) c
  held_here = ap (λ n. contents_blocks old.disk.blocks n c) over.stands.divided.block_size

  abbrev IsStill : ℕ → Type 0
  IsStill b = (block_bytes new.disk.blocks b ≡ block_bytes old.disk.blocks b) × (slice_get new.map b ≡ slice_get old.map b)

  each_still : (b : ℕ) → Contains (contents_blocks old.disk.blocks now.block_size c) b → IsStill b
  each_still b has = ⊎_elim
      (λ used.
      let own = over.owned.each b (subst (λ (l : List ℕ). Contains l b) held_here has) used in
      (keeps.bytes b own, list_used (kept_thread new) path sound.accepted sound.used b (subst (λ (l : List ℕ). Contains l b) (sym keeps.list) own) ∙ sym used))
      (λ flies. (flight.bytes b flies, flight.stay b flies ∙ sym flies))
      (held_states old.map old.disk.blocks now c over.stands.stands b has)

  stay : StayAs old.map old.disk.blocks (contents_blocks old.disk.blocks now.block_size c) new.map new.disk.blocks
  stay = record {
    size = sound.size ∙ geometry.count ∙ sym before.size;
    count = geometry.count;
    same = λ b has. (each_still b has).0;
    states = λ b has. (each_still b has).1;
    none_comes = flight.none_comes;
  }

  still : StandStill old.map old.disk.blocks now c new.map new.disk.blocks
  still = stands_still old.map new.map old.disk.blocks new.disk.blocks now c stay over.stands.stands

  held_now : contents_list_blocks (kept_thread new) c ≡ contents_blocks old.disk.blocks now.block_size c
  held_now = ap (λ n. contents_blocks new.disk.blocks n c) (geometry.block_size ∙ sym over.stands.divided.block_size) ∙ still.1.0

  pub over_stays : AreTreeContents new path c
  over_stays = record {
    file = keeps.file;
    stands = record {
      geometry = now;
      divided = record {
        block_size = over.stands.divided.block_size ∙ sym geometry.block_size;
        page = over.stands.divided.page ∙ sym geometry.page;
        profile = over.stands.divided.profile ∙ sym geometry.profile;
        count = over.stands.divided.count ∙ sym geometry.count;
      };
      stands = still.0;
    };
    owned = record {
      each = λ b has used.
          let was = subst (λ (l : List ℕ). Contains l b) held_now has in
          subst (λ (l : List ℕ). Contains l b) (sym keeps.list) (over.owned.each b (subst (λ (l : List ℕ). Contains l b) held_here was) (sym (each_still b was).1 ∙ used));
    };
  }

  pub bytes_held_stay : writer_contents_bytes (kept_thread new) c ≡ writer_contents_bytes (kept_thread old) c
  bytes_held_stay = ap (λ n. contents_bytes new.disk.blocks n c) (geometry.block_size ∙ sym over.stands.divided.block_size) ∙ still.1.1 ∙ ap (λ n. contents_bytes old.disk.blocks n c) over.stands.divided.block_size

pub contents_stay : (old new : TreeState) (op : Operation) (path : Path) (c : WriterContents) → AreTreeContents old path c → IsSoundState old → IsOperationApplied old op new → vacates_path op path ≡ false
    → AreTreeContents new path c × (writer_contents_bytes (kept_thread new) c ≡ writer_contents_bytes (kept_thread old) c)
contents_stay old new op path c over sound k away =
    let keeps = k.keeps path over.file away in
    (over_stays (without_cache old) (without_cache new) path c over sound k.sound k.geometry k.flight keeps, bytes_held_stay (without_cache old) (without_cache new) path c over sound k.sound k.geometry k.flight keeps)

-- no more blocks are in flight than contents in that form may have
pub flying_of : (t : TreeState) (path : Path) (c : WriterContents) → AreTreeContents t path c → in_flight_count t.map ≤ form_in_flight t.disk.block_size (contents_form c)
flying_of t path c over = subst (λ n. in_flight_count t.map ≤ form_in_flight n (contents_form c)) over.stands.divided.block_size (stands_flying t.map t.disk.blocks over.stands.geometry c over.stands.stands)
