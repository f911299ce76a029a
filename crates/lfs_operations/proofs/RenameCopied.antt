-- A slot of a block, as it was read.
use Rattle.lfs_operations.proofs.Common.{ℕ, zero, suc, ◌≡◌, ◌<◌, List, [], ◌∷◌, length, map, Option, Some, None, refl, sym, ap, ◌∙◌, arith, get_or, same_Some, RawContent, RawSlot, decoded_slot, decoded_slots, content_after, empty_slot, kind_of_type, empty_raw_content, slot_of_id, decoded_struct, block_entries, PairContent, Slot, complete_length, complete_parts, completed_parts, length-map, IsSome, option_and_then, option_map, attribute_view}
use Rattle.lfs_tag.specs.ContentView.{content_view, part_view, slot_view}
use Rattle.lfs_tag.specs.declared.content.Content as code
use Rattle.lfs_tag.specs.declared.content.NameOrStruct.{NameOrStruct}
use Rattle.lfs_tag.specs.declared.content.Slot as slots
use Rattle.lfs_thread.specs.CachedLog.{IsContentLog}

at_id : {X : Type 0} (f : X → RawSlot) (xs : List X) (i : ℕ) (x : X) (d : RawSlot) → i < length xs → x ≡ get_or xs i x → get_or (map f xs) i d ≡ f x
at_id f [] i x d l e = absurd (omega arith)
at_id f (y ∷ xs) zero x d l e = ap f (sym e)
at_id f (y ∷ xs) (suc i) x d l e = at_id f xs i x d (omega arith) e

record IsComplete (s : RawSlot) : Type 0 where
  slot : Slot
  is : decoded_slot s ≡ Some slot

complete_at_id : (xs : List RawSlot) (us : List Slot) (i : ℕ) → decoded_slots xs ≡ Some us → i < length xs → IsComplete (slot_of_id xs i)
complete_at_id [] us i h l = absurd (omega arith)
complete_at_id (x ∷ xs) us zero h l = let p = complete_parts x xs us h in record { slot = p.first; is = p.is_first }
complete_at_id (x ∷ xs) us (suc i) h l = let p = complete_parts x xs us h in complete_at_id xs p.others i p.are_others (omega arith)

has_parts : (s : slots.Slot) (u : Slot) → decoded_slot (slot_view s) ≡ Some u → IsSome s.name × IsSome s.structure
has_parts s u h = go s.name s.structure h
  where
    go : (n p : Option NameOrStruct) → option_and_then (λ name. option_map (λ struct. record {
      kind = kind_of_type name.0;
      name = name.1;
      struct = decoded_struct struct.0 struct.1;
      attributes = map attribute_view s.attributes.items;
    }) (option_map part_view p)) (option_map part_view n) ≡ Some u → IsSome n × IsSome p
    go None p k = absurd (cc)
    go (Some n) None k = absurd (cc)
    go (Some n) (Some p) k = (refl, refl)

module _ (block : List ℕ) (content : PairContent) (is : IsContentLog block content) (id : ℕ) (below : id < length content.slots) (read : code.Content) (log : content_after empty_raw_content (block_entries block) ≡ Some (content_view read)) where
  same_raw : content_view read ≡ is.raw
  same_raw = same_Some (content_view read) is.raw (sym log ∙ is.log)

  slots_are : map slot_view read.slots.items ≡ is.raw.slots
  slots_are = ap (λ (r : RawContent). r.slots) same_raw

  all : decoded_slots is.raw.slots ≡ Some content.slots
  all = (completed_parts is.raw content is.complete).slots

  pub read_below : id < length read.slots.items
  read_below = let a = complete_length is.raw.slots content.slots all in let b = ap length slots_are in let c = length-map read.slots.items slot_view in omega arith

  module _ (slot : slots.Slot) (at : slot ≡ get_or read.slots.items id slot) where
    pub there_read : slot_of_id is.raw.slots id ≡ slot_view slot
    there_read = ap (λ (z : List RawSlot). slot_of_id z id) (sym slots_are) ∙ at_id slot_view read.slots.items id slot empty_slot read_below at

    both : IsSome slot.name × IsSome slot.structure
    both =
        let k = complete_at_id is.raw.slots content.slots id all (let a = complete_length is.raw.slots content.slots all in omega arith) in
        has_parts slot k.slot (ap decoded_slot (sym there_read) ∙ k.is)

    pub is_named : IsSome slot.name
    is_named = both.0

    pub is_structured : IsSome slot.structure
    is_structured = both.1
