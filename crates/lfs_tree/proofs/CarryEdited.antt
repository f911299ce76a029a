-- An entry whose attributes change, at a path.
use Rattle.std.proofs.Common.{ℕ, ◌≡◌, ◌<◌, ◌≤◌, ◌∙◌, ◌++◌, true, false, List, [], ◌∷◌, length, Some, None, Result, Ok, Err, refl, sym, ap, subst}
use Rattle.std.specs.Prelude.{All, is_none, Any, OnOk}
use Rattle.lfs_device.specs.declared.error.Error.{Error}
use Rattle.lfs_tree.proofs.Common.{AllByRecursion, option_map, ltb-false, recursion_from_All, AreByteBlocks, IsFree, HoldsSlotOfPath, KeepsUnrelatedBlocks, changed_paths, OpenFilesByNumber, node_attributes_of, last_name, attributes_with, attributes_without, half_pair_capacity, inline_limit, CallEvent, OnlyReadsSince, fault_count, Name, Operation, is_recover, renames_itself, slot_of_path, Attributes, Slot, Struct, Inline, Ctz, Branch, reserved_entry_size, path_or_root, is_root_path, Pair, address_blocks, Path, Tree, struct_node, IsWritableSlot, InlineBytesFit, disk_list_bytes, all_entries, disk_tree, Each, each_right, last_is, here, WritesPairAndTwoFree, CanEditIn, CanSetAttribute, HasRemovedAttribute, HasSetAttribute, tree_setting_attributes, KeptThread, ThreadView, ChangesThreadBlocks, thread_pair, CanRemoveAttr, CanSetAttr, tree_after_call, AppliesBeforeRelocation, HasAppliedCall, CanChangeRecovered, AppliesOrFails, KeepsBlocksOutsideOperation, HasSoundImage, PowerLossLeavesEither, HasPathEntry, IsSlotOfPath, is_entry_found, tree_with_attributes, uncached_state, IsResultOfPath, IsSlotOfChild}
use Rattle.lfs_model.specs.session.Operations as ops
use Rattle.lfs_operations.specs.Editing.{HasAttributesChanged}
use Rattle.lfs_tree.proofs.LeftAlone.{about_one, holds_slot, rest_left_alone}
use Rattle.lfs_tree.specs.TreeCalls as call
use Rattle.lfs_tree.specs.SlotChanges.{IsFoundSlot}
use Rattle.lfs_lookup.specs.declared.paths.PathLookup.{PathLookup}
use Rattle.lfs_lookup.specs.declared.paths.PathLookup.TheVariants as found
use Rattle.lfs_lookup.specs.declared.search.SlotPosition.{SlotPosition}
use Rattle.lfs_tree.proofs.Carried.{IsPairsOrFree, among_one, behind_below, carried, with_history}
use Rattle.lfs_tree.proofs.CarryCreated.{ready_to, stay_in_flight}
use Rattle.lfs_tree.proofs.CarryLogged.{logged_there}
use Rattle.lfs_tree.proofs.CarrySurvives.{survives_behind}
use Rattle.lfs_tree.proofs.ReportedFaults.{ReportsFaultsSince}
use Rattle.lfs_tree.proofs.Operated.{changed, clear_stands, does_clear, does_set, quiet_reported, set_stands}

-- ---- what is found

absent : (t : KeptThread) (path : Path) → HasPathEntry (disk_tree t.disk t.pairs) path → slot_of_path t.pairs path ≡ None → ⊥
absent t path v e =
    let k = sym v.something ∙ ap (λ o. is_none (option_map (λ (f : Slot). struct_node (disk_list_bytes t.disk) (all_entries t.pairs) f.attributes f.struct) o)) e in absurd (cc)

pub slot_found : (t : KeptThread) (path : Path) (f : PathLookup) → HasPathEntry (disk_tree t.disk t.pairs) path → IsResultOfPath t path f → is_entry_found f ≡ true
slot_found t path found.Root v l = let k = sym v.entry ∙ ap is_root_path l.there in absurd (cc)
slot_found t path found.ParentIsFile v l = let k = sym v.parents ∙ l.parents in absurd (cc)
slot_found t path found.ParentIsMissing v l = let k = sym v.parents ∙ l.parents in absurd (cc)
slot_found t path (found.Nothing parent place) v l = absurd (absent t path v (ap (slot_of_path t.pairs) l.there.is ∙ l.there.there.nothing))
slot_found t path (found.Directory parent slot first) v l = refl
slot_found t path (found.File parent slot contents) v l = refl

slot_is : (ps : List Pair) (path above : Path) (name : Name) (parent : ℕ) (slot spot : SlotPosition) → path ≡ above ++ name ∷ [] → IsSlotOfChild ps above name parent slot → slot ≡ spot → IsSlotOfPath ps path spot
slot_is ps path above name parent slot spot e s h = record { above = above; name = name; first = parent; is = e; stands = subst (IsSlotOfChild ps above name parent) h s }

pub slot_for : (t : KeptThread) (path : Path) (f : PathLookup) (spot : SlotPosition) → IsResultOfPath t path f → IsFoundSlot f spot → IsSlotOfPath t.pairs path spot
slot_for t path found.Root spot l h = absurd h
slot_for t path found.ParentIsFile spot l h = absurd h
slot_for t path found.ParentIsMissing spot l h = absurd h
slot_for t path (found.Nothing parent place) spot l h = absurd h
slot_for t path (found.Directory parent slot first) spot l h = slot_is t.pairs path l.there.above l.there.name parent slot spot l.there.is l.there.there.0 h
slot_for t path (found.File parent slot contents) spot l h = slot_is t.pairs path l.there.above l.there.name parent slot spot l.there.is l.there.there.0 h

pub entry_to_set : (t : KeptThread) (path : Path) (kind : ℕ) (bytes : List ℕ) → CanSetAttr (uncached_state t true false) path kind bytes → HasPathEntry (disk_tree t.disk t.pairs) path
entry_to_set t path kind bytes can = record { entry = can.entry; parents = can.parents; something = can.something }

pub entry_to_clear : (t : KeptThread) (path : Path) (kind : ℕ) → CanRemoveAttr (uncached_state t true false) path kind → HasPathEntry (disk_tree t.disk t.pairs) path
entry_to_clear t path kind can = record { entry = can.entry; parents = can.parents; something = can.something }

-- ---- what may be changed

module _ (t : ThreadView) (root : ℕ) (rests : CanChangeRecovered t root) (path : Path) (large : 1024 ≤ t.kept.disk.block_size) (bytes : AreByteBlocks t.kept.disk.blocks) (spot : SlotPosition) (slot : IsSlotOfPath t.kept.pairs path spot)
    (h : List CallEvent) where
  abbrev before : Tree
  before = disk_tree t.kept.disk t.kept.pairs

  abbrev found_slot : Slot
  found_slot = slot.stands.stands.stands.slot

  unfoldable pub can_edit : CanEditIn (with_history t.kept h) spot.pair spot.id
  can_edit = record {
    ready = ready_to t root h rests large;
    path = slot.above;
    at = slot.stands.on.at;
    leads = slot.stands.on.leads;
    first = slot.first;
    begins = slot.stands.on.begins;
    name = slot.name;
    stands = slot.stands.stands;
    logged = logged_there t.kept.disk _ bytes;
  }

  pub attributes_are : node_attributes_of (disk_tree t.kept.disk t.kept.pairs path) ≡ found_slot.attributes
  attributes_are =
      ap (λ o. node_attributes_of (option_map (λ (f : Slot). struct_node (disk_list_bytes t.kept.disk) (all_entries t.kept.pairs) f.attributes f.struct) o)) (ap (slot_of_path t.kept.pairs) slot.is ∙ slot.stands.slot)
      ∙ by_struct found_slot.attributes found_slot.struct
    where
      by_struct : (a : Attributes) (s : Struct) → node_attributes_of (Some (struct_node (disk_list_bytes t.kept.disk) (all_entries t.kept.pairs) a s)) ≡ a
      by_struct a (Inline xs) = refl
      by_struct a (Ctz head size) = refl
      by_struct a (Branch to) = refl

  name_is : last_name path ≡ found_slot.name
  name_is = ap last_name slot.is ∙ last_is slot.above slot.name ∙ sym slot.stands.stands.stands.named

  abbrev Fit : Slot → Type 0
  Fit s = IsWritableSlot t.kept.disk.profile t.kept.disk.block_size t.kept.disk.page s

  pub inline_fits : InlineBytesFit (inline_limit t.kept.disk.profile t.kept.disk.block_size) found_slot.struct
  inline_fits =
      let place = slot.stands.stands.place in
      let stands = slot.stands.stands.stands in
      let pair = slot.stands.stands.pair in
      let all = recursion_from_All (λ (p : Pair). All Fit p.content.slots) t.kept.pairs (rests.held.sound.fits refl).slots in
      let one = (each_right (λ (p : Pair). All Fit p.content.slots) place.left (pair ∷ slot.stands.stands.rest)
      (each_right (λ (p : Pair). All Fit p.content.slots) place.front (place.left ++ pair ∷ slot.stands.stands.rest) (subst (Each (λ (p : Pair). All Fit p.content.slots)) place.parts all))).0 in
      let fit = (each_right Fit stands.left (stands.slot ∷ stands.right) (subst (Each Fit) stands.held (recursion_from_All Fit pair.content.slots one))).0 in
      (fit.1 stands.entry).inline

  pub can_set : (kind : ℕ) (given : List ℕ) → CanSetAttr (uncached_state t.kept true false) path kind given → CanSetAttribute (with_history t.kept h) spot.pair spot.id kind given
  unfolding can_edit
  can_set kind given can = record {
    can = can_edit;
    short = can.len;
    fits = record {
      charge = subst (λ n. reserved_entry_size t.kept.disk.profile t.kept.disk.block_size n (attributes_with kind given found_slot.attributes) ≤ half_pair_capacity t.kept.disk.block_size t.kept.disk.page) name_is
          (subst (λ a. reserved_entry_size t.kept.disk.profile t.kept.disk.block_size (last_name path) (attributes_with kind given a) ≤ half_pair_capacity t.kept.disk.block_size t.kept.disk.page) attributes_are (ltb-false _ _ can.fits));
      inline = inline_fits;
    };
  }

  pub slot_below : spot.pair < length t.kept.pairs
  slot_below = behind_below t.kept.pairs slot.first spot.pair slot.stands.stands.pair slot.stands.stands.rest slot.stands.stands.place

  edited_at : (c : KeptThread) (f : Attributes → Attributes) (op : List ℕ → Operation) (given : List ℕ) (bs : List ℕ) → fault_count c.history ≡ fault_count t.kept.history → OnlyReadsSince t.kept.disk.blocks t.kept.history h → ChangesThreadBlocks bs (with_history t.kept h) c → AllByRecursion (IsPairsOrFree t.kept) bs
      → HasAttributesChanged (with_history t.kept h) c slot.above slot.name f op → path_or_root given ≡ path → renames_itself (op given) ≡ false → is_recover (op given) ≡ false → AppliesBeforeRelocation t.kept (op given) c
  edited_at c f op given bs quiet reads writes among is e other asks = carried t.kept h (op given) c
      (record {
        accepted = rests.held.sound.accepted;
        used = rests.held.sound.used;
        writable = rests.held.sound.fits refl;
        settled = rests.settled;
        reads = reads;
        ready = is.now.ready;
        stay = stay_in_flight t.kept.map c.map is.now.stays;
        none_comes = is.now.none_comes;
        completed = λ files. is.completed (record { tree = disk_tree t.kept.disk t.kept.pairs; files = files }) given refl (e ∙ slot.is);
        writes = record { blocks = bs; each = among; writes = writes };
        no_fault = quiet;
      }) other asks

  set_at : (c : KeptThread) (kind : ℕ) (bytes_given given : List ℕ) (bs : List ℕ) → CanSetAttr (uncached_state t.kept true false) path kind bytes_given → fault_count c.history ≡ fault_count t.kept.history → OnlyReadsSince t.kept.disk.blocks t.kept.history h → ChangesThreadBlocks bs (with_history t.kept h) c
      → AllByRecursion (IsPairsOrFree t.kept) bs → ((set : CanSetAttribute (with_history t.kept h) spot.pair spot.id kind bytes_given) → HasSetAttribute (with_history t.kept h) c set.can.path set.can.name kind bytes_given)
      → path_or_root given ≡ path → AppliesBeforeRelocation t.kept (ops.SetAttr given kind bytes_given) c
  unfolding can_set can_edit
  set_at c kind bytes_given given bs can quiet reads writes among gives e =
      let is : HasSetAttribute (with_history t.kept h) c slot.above slot.name kind bytes_given = gives (can_set kind bytes_given can) in
      edited_at c (attributes_with kind bytes_given) (λ z. ops.SetAttr z kind bytes_given) given bs quiet reads writes among is e refl refl

  cleared_at : (c : KeptThread) (kind : ℕ) (given : List ℕ) (bs : List ℕ) → fault_count c.history ≡ fault_count t.kept.history → OnlyReadsSince t.kept.disk.blocks t.kept.history h → ChangesThreadBlocks bs (with_history t.kept h) c → AllByRecursion (IsPairsOrFree t.kept) bs
      → ((can : CanEditIn (with_history t.kept h) spot.pair spot.id) → HasRemovedAttribute (with_history t.kept h) c can.path can.name kind) → path_or_root given ≡ path → AppliesBeforeRelocation t.kept (ops.RemoveAttr given kind) c
  unfolding can_edit
  cleared_at c kind given bs quiet reads writes among gives e =
      let is : HasRemovedAttribute (with_history t.kept h) c slot.above slot.name kind = gives can_edit in
      edited_at c (attributes_without kind) (λ z. ops.RemoveAttr z kind) given bs quiet reads writes among is e refl refl

  -- the pair holds the slot of the path
  edited_alone : (c : KeptThread) (op : Operation) (files : OpenFilesByNumber) (given : List ℕ) (fresh : List ℕ) → changed_paths (record { tree = disk_tree t.kept.disk t.kept.pairs; files = files }) op ≡ path_or_root given ∷ [] → path_or_root given ≡ path
      → AllByRecursion (IsFree t.kept.map) fresh → ChangesThreadBlocks ((thread_pair t.kept spot.pair).at.0 ∷ (thread_pair t.kept spot.pair).at.1 ∷ fresh) (with_history t.kept h) c
      → KeepsUnrelatedBlocks t.kept.disk t.kept.pairs (record { tree = disk_tree t.kept.disk t.kept.pairs; files = files }) op c.disk c.pairs
  edited_alone c op files given fresh about e free w =
      let s = slot.stands.stands in
      let is : thread_pair t.kept spot.pair ≡ s.pair = here (with_history t.kept h) (ready_to t root h rests large) slot.first spot.pair s.pair s.rest s.place in
      rest_left_alone (with_history t.kept h) c slot.first spot.pair s.pair s.rest fresh (record { tree = disk_tree t.kept.disk t.kept.pairs; files = files }) op
      rests.held.sound.accepted rests.held.sound.used s.place free
      (subst (λ (z : Pair). ChangesThreadBlocks (z.at.0 ∷ z.at.1 ∷ fresh) (with_history t.kept h) c) is w)
      (λ has n. n (subst (Any (HoldsSlotOfPath t.kept.pairs s.pair)) (sym about)
      (about_one (HoldsSlotOfPath t.kept.pairs s.pair) (path_or_root given) (slot.above ++ slot.name ∷ []) (e ∙ slot.is)
      (holds_slot t.kept.pairs slot.above slot.stands.on.at slot.first slot.name spot.pair spot.id rests.held.sound.accepted.thread.distinct slot.stands.on.leads slot.stands.on.begins s))))

  edit_survives : (c : KeptThread) (f : Attributes → Attributes) (bs : List ℕ) → OnlyReadsSince t.kept.disk.blocks t.kept.history h → ChangesThreadBlocks bs (with_history t.kept h) c
      → PowerLossLeavesEither (with_history t.kept h) c (tree_setting_attributes t.kept slot.above slot.name f) → PowerLossLeavesEither t.kept c (tree_with_attributes path f (disk_tree t.kept.disk t.kept.pairs))
  edit_survives c f bs reads writes k =
      subst (λ p. PowerLossLeavesEither t.kept c (tree_with_attributes p f (disk_tree t.kept.disk t.kept.pairs))) (sym slot.is) (survives_behind t root rests h c bs (tree_setting_attributes t.kept slot.above slot.name f) reads writes k)

  set_survives : (c : KeptThread) (kind : ℕ) (bytes_given : List ℕ) (bs : List ℕ) → CanSetAttr (uncached_state t.kept true false) path kind bytes_given → OnlyReadsSince t.kept.disk.blocks t.kept.history h → ChangesThreadBlocks bs (with_history t.kept h) c
      → ((set : CanSetAttribute (with_history t.kept h) spot.pair spot.id kind bytes_given) → PowerLossLeavesEither (with_history t.kept h) c (tree_setting_attributes (with_history t.kept h) set.can.path set.can.name (attributes_with kind bytes_given)))
      → PowerLossLeavesEither t.kept c (tree_with_attributes path (attributes_with kind bytes_given) (disk_tree t.kept.disk t.kept.pairs))
  unfolding can_set can_edit
  set_survives c kind bytes_given bs can reads writes gives = edit_survives c (attributes_with kind bytes_given) bs reads writes (gives (can_set kind bytes_given can))

  cleared_survives : (c : KeptThread) (kind : ℕ) (bs : List ℕ) → OnlyReadsSince t.kept.disk.blocks t.kept.history h → ChangesThreadBlocks bs (with_history t.kept h) c
      → ((can : CanEditIn (with_history t.kept h) spot.pair spot.id) → PowerLossLeavesEither (with_history t.kept h) c (tree_setting_attributes (with_history t.kept h) can.path can.name (attributes_without kind)))
      → PowerLossLeavesEither t.kept c (tree_with_attributes path (attributes_without kind) (disk_tree t.kept.disk t.kept.pairs))
  unfolding can_edit
  cleared_survives c kind bs reads writes gives = edit_survives c (attributes_without kind) bs reads writes (gives can_edit)

  -- ---- all that is said of it

  pub set_does : (new : ThreadView) (r : Result (Unit {0}) Error) (kind : ℕ) (value given : List ℕ) → path_or_root given ≡ path → CanSetAttr (uncached_state t.kept true false) path kind value → fault_count h ≡ fault_count t.kept.history → OnlyReadsSince t.kept.disk.blocks t.kept.history h
      → WritesPairAndTwoFree (with_history t.kept h) spot.pair new.kept → OnOk r ((set : CanSetAttribute (with_history t.kept h) spot.pair spot.id kind value) → HasSetAttribute (with_history t.kept h) new.kept set.can.path set.can.name kind value)
      → ReportsFaultsSince h new.kept.history r → OnOk r (new.failed ≡ false)
      → ((set : CanSetAttribute (with_history t.kept h) spot.pair spot.id kind value) → PowerLossLeavesEither (with_history t.kept h) new.kept (tree_setting_attributes (with_history t.kept h) set.can.path set.can.name (attributes_with kind value)))
      → AppliesOrFails t (call.SetAttr path kind value) r new
  set_does new r kind value given named can quiet reads w gives reported works survives =
      changed t new (HasAppliedCall t.kept (call.SetAttr path kind value)) (tree_after_call (call.SetAttr path kind value) before) h _ r quiet reads w.writes reported works (go r gives (quiet_reported t.kept new.kept h r quiet reported)) (set_survives new.kept kind value _ can reads w.writes survives)
    where
      go : (r : Result (Unit {0}) Error) → OnOk r ((set : CanSetAttribute (with_history t.kept h) spot.pair spot.id kind value) → HasSetAttribute (with_history t.kept h) new.kept set.can.path set.can.name kind value)
          → OnOk r (fault_count new.kept.history ≡ fault_count t.kept.history) → OnOk r (HasAppliedCall t.kept (call.SetAttr path kind value) new.kept × HasSoundImage t.kept (tree_after_call (call.SetAttr path kind value) before) new.kept)
      go (Err e) gives same = tt
      go (Ok x) gives same =
          let at : (given : List ℕ) → path_or_root given ≡ path → AppliesBeforeRelocation t.kept (ops.SetAttr given kind value) new.kept
          = λ given e. set_at new.kept kind value given _ can same reads w.writes (among_one t.kept spot.pair w.fresh slot_below w.free) gives e in (
            record {
              carries = does_set (λ op. AppliesBeforeRelocation t.kept op new.kept) path kind value at;
              spares = does_set (λ op. KeepsBlocksOutsideOperation t.kept op new.kept) path kind value (λ given e none files. edited_alone new.kept (ops.SetAttr given kind value) files given w.fresh refl e w.free w.writes);
            },
            set_stands t.kept new.kept path kind value given named (at given named) (gives (can_set kind value can)).now.root,
          )

  pub clear_does : (new : ThreadView) (r : Result (Unit {0}) Error) (kind : ℕ) (given : List ℕ) → path_or_root given ≡ path → fault_count h ≡ fault_count t.kept.history → OnlyReadsSince t.kept.disk.blocks t.kept.history h
      → ChangesThreadBlocks (address_blocks (thread_pair t.kept spot.pair).at) (with_history t.kept h) new.kept → OnOk r ((can : CanEditIn (with_history t.kept h) spot.pair spot.id) → HasRemovedAttribute (with_history t.kept h) new.kept can.path can.name kind)
      → ReportsFaultsSince h new.kept.history r → OnOk r (new.failed ≡ false)
      → ((can : CanEditIn (with_history t.kept h) spot.pair spot.id) → PowerLossLeavesEither (with_history t.kept h) new.kept (tree_setting_attributes (with_history t.kept h) can.path can.name (attributes_without kind)))
      → AppliesOrFails t (call.RemoveAttr path kind) r new
  clear_does new r kind given named quiet reads w gives reported works survives =
      changed t new (HasAppliedCall t.kept (call.RemoveAttr path kind)) (tree_after_call (call.RemoveAttr path kind) before) h _ r quiet reads w reported works (go r gives (quiet_reported t.kept new.kept h r quiet reported)) (cleared_survives new.kept kind _ reads w survives)
    where
      go : (r : Result (Unit {0}) Error) → OnOk r ((can : CanEditIn (with_history t.kept h) spot.pair spot.id) → HasRemovedAttribute (with_history t.kept h) new.kept can.path can.name kind)
          → OnOk r (fault_count new.kept.history ≡ fault_count t.kept.history) → OnOk r (HasAppliedCall t.kept (call.RemoveAttr path kind) new.kept × HasSoundImage t.kept (tree_after_call (call.RemoveAttr path kind) before) new.kept)
      go (Err e) gives same = tt
      go (Ok x) gives same =
          let at : (given : List ℕ) → path_or_root given ≡ path → AppliesBeforeRelocation t.kept (ops.RemoveAttr given kind) new.kept
          = λ given e. cleared_at new.kept kind given _ same reads w (among_one t.kept spot.pair [] slot_below tt) gives e in (
            record {
              carries = does_clear (λ op. AppliesBeforeRelocation t.kept op new.kept) path kind at;
              spares = does_clear (λ op. KeepsBlocksOutsideOperation t.kept op new.kept) path kind (λ given e none files. edited_alone new.kept (ops.RemoveAttr given kind) files given [] refl e tt w);
            },
            clear_stands t.kept new.kept path kind given named (at given named) (gives can_edit).now.root,
          )
