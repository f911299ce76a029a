-- The contents of pairs after the two steps of a mkdir.
use Rattle.lfs_operations.proofs.Common.{ℕ, ◌≡◌, ◌≢◌, ◌≤◌, ◌<◌, ◌==◌, ◌&&◌, not, Bool, true, false, cond, eqb-true, List, [], ◌∷◌, length, Option, Some, None, refl, sym, ap, ap₂, subst, ◌∙◌, arith, insert, and_parts, ne_eqb, PutMove, PutTail, content_with_changes, RawContent, raw_content, content_at, content_after, decoded_content, decoded_slot, has_commit, later_committed_block, current_block, is_later, empty_raw_content, directory_name_type, directory_struct_type, Disk, disk_block, half_pair_capacity, block_entries, block_revision, AreU32Addresses, IsWellFormed, MoveStateFits, IsNameOrStruct, Name, PairContent, FitsInPair, Gstate, Tail, slot_size, directory_slot, Pair, tail_target, address_bytes, IsCompleted, complete_insert, complete_length, completed_parts, completed_from, creates_with_struct, does_first, puts_move, puts_tail, slot_with, with_sync_inverted, insert_cut, logged_changed, tag_type-make_tag, tag_length-make_tag, changed_pair_content, KeptThread, thread_pair, complete_after, slice_index, option_and_then, AreByteBlocks, null_address, CanCommitOrSplit, threading_changes, IsLogContentDecodable, ContentChange, PutStruct, Slot}
use Rattle.lfs_model.specs.format.EntryTypes.{tail_if_not_null}
use Rattle.lfs_model.proofs.WrittenAnew.{decoded_address-address_bytes}
use Rattle.lfs_operations.proofs.Held.{CompletesTo, completes_to, logged_at}
use Rattle.lfs_model.specs.layers.Changes.{Create}

-- ---- blocks of bytes

abbrev AreSmall : List ℕ → Type 0
AreSmall block = (i : ℕ) → slice_index block i < 256

holder_small : (a b block : List ℕ) → AreSmall a → AreSmall b → later_committed_block a b ≡ Some block → AreSmall block
holder_small a b block f g h = go (not (has_commit a)) (has_commit b) (has_commit b && is_later (block_revision a) (block_revision b)) h
  where
    same : (x y : List ℕ) → Some x ≡ Some y → AreSmall x → AreSmall y
    same x y e s = let k : x ≡ y = cc in subst AreSmall k s

    go : (x y z : Bool) → cond x (cond y (Some b) None) (cond z (Some b) (Some a)) ≡ Some block → AreSmall block
    go true true z e = same b block e g
    go true false z e = absurd (cc)
    go false y true e = same b block e g
    go false y false e = same a block e f

pub logged_there : (disk : Disk) (at : ℕ × ℕ) → AreByteBlocks disk.blocks → IsLogContentDecodable disk at
logged_there disk at bytes raw is = go (current_block disk at) refl is
  where
    go : (o : Option (List ℕ)) → current_block disk at ≡ o → option_and_then (λ block. content_after empty_raw_content (block_entries block)) o ≡ Some raw → IsWellFormed raw
    go None e h = absurd (cc)
    go (Some block) e h = logged_at disk at block e (holder_small (disk_block disk at.0) (disk_block disk at.1) block (bytes at.0) (bytes at.1) e) raw is

-- ---- the parts of a directory's slot

directory_name : (name : Name) → length name ≤ 255 → IsNameOrStruct 0 (directory_name_type, name)
directory_name name short = record {
  of_class = refl;
  short = omega arith;
  in_table =
      let kind = tag_type-make_tag directory_name_type 0 (length name) (omega arith) (omega arith) (omega arith) in
      let len = tag_length-make_tag directory_name_type 0 (length name) (omega arith) in
      rw len (rw kind (rw (ne_eqb (length name) 0x3ff (λ e. omega arith)) refl));
}

branch_part : (to : ℕ × ℕ) → IsNameOrStruct 2 (directory_struct_type, address_bytes to)
branch_part to = record { of_class = refl; short = omega arith; in_table = refl }

-- two null addresses are no tail
tail_is : (to : ℕ × ℕ) → to.0 ≢ to.1 → tail_if_not_null false to ≡ Some (record { hard = false; to = to })
tail_is to apart = go (to.0 == null_address && to.1 == null_address) refl
  where
    go : (b : Bool) → (to.0 == null_address && to.1 == null_address) ≡ b → cond {A = Option Tail} b None (Some (record { hard = false; to = to })) ≡ Some (record { hard = false; to = to })
    go false e = refl
    go true e = let both = and_parts (to.0 == null_address) (to.1 == null_address) e in absurd (apart (eqb-true to.0 null_address both.0 ∙ sym (eqb-true to.1 null_address both.1)))

-- ---- the steps

-- The pair has room for a slot of these parts. The further changes make another delta of the global state.
pub record IsNewEntry (t : KeptThread) (p : Pair) (id kind : ℕ) (name : Name) (struct : ℕ) (bytes : List ℕ) (u : Slot) (more : List ContentChange) (move : Gstate) : Type 0 where
  pub named : IsNameOrStruct 0 (kind, name)
  pub part : IsNameOrStruct 2 (struct, bytes)
  pub slot : decoded_slot (slot_with (kind, name) (struct, bytes)) ≡ Some u
  pub within : id ≤ length p.content.slots
  pub fits : FitsInPair t.disk.block_size t.disk.page p.content
  pub small : slot_size u ≤ half_pair_capacity t.disk.block_size t.disk.page
  pub delta : Gstate → Gstate
  pub does : (raw : RawContent) → content_with_changes raw more ≡ Some (record raw { move = delta raw.move })
  pub state : delta p.content.move ≡ move

module _ (t : KeptThread) (index : ℕ) (p : Pair) (here : thread_pair t index ≡ p) (holds : content_at t.disk (thread_pair t index).at ≡ Some p.content) (logged : IsLogContentDecodable t.disk (thread_pair t index).at) where
  abbrev c : CompletesTo (raw_content t.disk (thread_pair t index).at) p.content
  c = completes_to (raw_content t.disk (thread_pair t index).at) p.content holds

  abbrev delta : Gstate
  delta = with_sync_inverted (thread_pair t index).content.move

  parts : IsCompleted c.raw p.content
  parts = completed_parts c.raw p.content c.complete

  delta_is : delta ≡ with_sync_inverted p.content.move
  delta_is = ap (λ (z : Pair). with_sync_inverted z.content.move) here

  delta_state : MoveStateFits delta
  delta_state =
      let h = subst MoveStateFits (sym parts.move ∙ ap (λ (z : Pair). z.content.move) (sym here)) (logged c.raw c.is).move in
      record { kind = h.kind; id = h.id; pair = h.pair }

  -- ---- the fresh pair is threaded

  abbrev pub threaded_now : ℕ × ℕ → PairContent
  threaded_now fresh = record { slots = p.content.slots; tail = Some (record { hard = false; to = fresh }); move = with_sync_inverted p.content.move }

  abbrev raw_threaded : ℕ × ℕ → RawContent
  raw_threaded fresh = record c.raw { tail = Some (record { hard = false; to = fresh }); move = delta }

  threads : (fresh : ℕ × ℕ) → AreU32Addresses fresh → fresh.0 ≢ fresh.1 → content_with_changes c.raw (threading_changes t index fresh) ≡ Some (raw_threaded fresh)
  threads fresh address apart =
      let named : RawContent = record c.raw { tail = tail_if_not_null false fresh } in
      does_first (PutTail false (Some fresh)) (PutMove delta ∷ []) c.raw named (raw_threaded fresh) (puts_tail c.raw false fresh address)
      (does_first (PutMove delta) [] named (record named { move = delta }) (raw_threaded fresh) (puts_move named delta delta_state) (ap (λ (tail : Option Tail). Some (record c.raw { tail = tail; move = delta })) (tail_is fresh apart)))

  pub threaded_made : (fresh : ℕ × ℕ) → AreU32Addresses fresh → fresh.0 ≢ fresh.1 → complete_after t index (threading_changes t index fresh) ≡ Some (threaded_now fresh)
  threaded_made fresh address apart =
      ap (λ o. option_and_then decoded_content (option_and_then (λ (r : RawContent). content_with_changes r (threading_changes t index fresh)) o)) c.is
      ∙ ap (λ o. option_and_then decoded_content o) (threads fresh address apart)
      ∙ completed_from (raw_threaded fresh) p.content.slots parts.slots
      ∙ ap (λ m. Some (record { slots = p.content.slots; tail = Some (record { hard = false; to = fresh }); move = m })) delta_is

  -- ---- an entry is created

  module _ {id kind : ℕ} {name : Name} {struct : ℕ} {bytes : List ℕ} {u : Slot} {more : List ContentChange} {move : Gstate} (e : IsNewEntry t p id kind name struct bytes u more move) where
    abbrev changes : List ContentChange
    changes = Create id kind name ∷ PutStruct id struct bytes ∷ more

    abbrev raw_now : RawContent
    raw_now = record c.raw { slots = insert c.raw.slots id (slot_with (kind, name) (struct, bytes)); move = e.delta c.raw.move }

    enters : content_with_changes c.raw changes ≡ Some raw_now
    enters =
        let l = complete_length c.raw.slots p.content.slots parts.slots in
        let few = e.fits.count in
        let m = e.within in
        creates_with_struct c.raw id kind name struct bytes more raw_now (omega arith) (omega arith) e.named e.part (e.does (record c.raw { slots = insert c.raw.slots id (slot_with (kind, name) (struct, bytes)) }))

    raw_made : changed_pair_content t.disk (thread_pair t index).at changes ≡ Some raw_now
    raw_made = ap (λ o. option_and_then (λ (r : RawContent). content_with_changes r changes) o) c.is ∙ enters

    now_complete : decoded_content raw_now ≡ Some (record { slots = insert p.content.slots id u; tail = p.content.tail; move = move })
    now_complete =
        completed_from raw_now (insert p.content.slots id u) (complete_insert c.raw.slots p.content.slots id (slot_with (kind, name) (struct, bytes)) u parts.slots e.slot)
        ∙ ap₂ (λ t m. Some (record { slots = insert p.content.slots id u; tail = t; move = m })) (sym parts.tail) (ap e.delta (sym parts.move) ∙ e.state)

    pub entry_made : complete_after t index (Create id kind name ∷ PutStruct id struct bytes ∷ more) ≡ Some (record { slots = insert p.content.slots id u; tail = p.content.tail; move = move })
    entry_made = ap (λ o. option_and_then decoded_content o) raw_made ∙ now_complete

    pub can_put_entry : index < length t.pairs → CanCommitOrSplit t index (Create id kind name ∷ PutStruct id struct bytes ∷ more)
    can_put_entry below = record {
      can = record {
        below = below;
        content = record { slots = insert p.content.slots id u; tail = p.content.tail; move = move };
        made = entry_made;
        next = ap (λ (z : Pair). tail_target z.content.tail) (sym here);
      };
      raw = raw_now;
      made = raw_made;
      cut = insert_cut t.disk.block_size t.disk.page raw_now (record { slots = insert p.content.slots id u; tail = p.content.tail; move = move }) p.content id u
          (logged_changed c.raw changes raw_now (logged c.raw c.is) enters) now_complete refl e.small e.fits;
    }

  -- a directory's, and the sync bit is flipped
  pub directory_entry : (id : ℕ) (name : Name) (to : ℕ × ℕ) → length name ≤ 255 → AreU32Addresses to → id ≤ length p.content.slots → FitsInPair t.disk.block_size t.disk.page p.content
      → slot_size (directory_slot name to) ≤ half_pair_capacity t.disk.block_size t.disk.page
      → IsNewEntry t p id directory_name_type name directory_struct_type (address_bytes to) (directory_slot name to) (PutMove (with_sync_inverted (thread_pair t index).content.move) ∷ []) (with_sync_inverted p.content.move)
  directory_entry id name to short address within fits small = record {
    named = directory_name name short;
    part = branch_part to;
    slot = ap (λ (a : ℕ × ℕ). Some (directory_slot name a)) (decoded_address-address_bytes to address);
    within = within;
    fits = fits;
    small = small;
    delta = λ m. delta;
    does = λ raw. does_first (PutMove delta) [] raw (record raw { move = delta }) (record raw { move = delta }) (puts_move raw delta delta_state) refl;
    state = delta_is;
  }
