use Rattle.std.proofs.Common.{◌≡◌, ◌≢◌, ◌∙◌, inl, inr, true, List, [], ◌∷◌, length, map, refl, sym, ap, subst, arith}
use Rattle.std.specs.Prelude.{All}
use Rattle.lfs_lookup.proofs.Common.{length-map, same_Some, RawContent, decoded_slots, IsWellFormed, IsWritableSlot, FitsInPair, Slot, address_of_array, Pair, logged, complete_length, completed_parts, content_view, slot_view, PairBreaksProfile, SomeSlotBreaksProfile, IsWritablePair}
use Rattle.lfs_model.specs.layers.WrittenContent.{RawContentFitsInPair}
use Rattle.lfs_model.specs.declared.breaches.ProfileBreach.{ProfileBreach}
use Rattle.lfs_model.specs.declared.breaches.ProfileBreach.TheVariants as breach
use Rattle.lfs_model.proofs.Completed.{fits_pair, fits_raw}
use Rattle.lfs_lookup.specs.ProfileChecks.{PairItselfBreaksProfile}
use Rattle.lfs_lookup.proofs.Profiled.{told, weaker}
use Rattle.lfs_lookup.proofs.profile.breach_of_log.Goals as goal

pub breach_of_slots-of_slots-requires : goal.breach_of_slots-of_slots-requires
breach_of_slots-of_slots-requires c =
    let is = c.requires.1.0 in
    let read = c.in_ok-content.ensures.content in
    let same = same_Some (content_view c.in_ok-content.content) is.raw (sym read ∙ is.log) in
    let slots = ap (map slot_view) c.deref.ensures.value ∙ ap (λ (r : RawContent). r.slots) same in
    (c.requires.0.slots, (ap decoded_slots slots ∙ (completed_parts is.raw c.requires.0 is.complete).slots, c.requires.1.1))

no_slots : (xs : List Slot) → length xs ≡ 0 → xs ≡ []
no_slots [] e = refl
no_slots (x ∷ xs) e = absurd (omega (arith, e))

pub returns-clause-is : goal.returns-clause-is
returns-clause-is c content is shaped =
    let profile = c.args.geometry.now.profile in
    let size = c.args.geometry.now.block_size in
    let page = c.args.geometry.now.page in
    let follows = c.args.follows in
    let p : Pair = record { at = address_of_array c.args.pair; content = content } in
    let read = c.in_ok-content.ensures.content in
    let same = same_Some (content_view c.in_ok-content.content) is.raw (sym read ∙ is.log) in
    let sound = subst IsWellFormed same (logged c.args.log.now (content_view c.in_ok-content.content) is.bytes read) in
    let slots = ap (map slot_view) c.deref.ensures.value ∙ ap (λ (r : RawContent). r.slots) same in
    let all = ap decoded_slots slots ∙ (completed_parts is.raw content is.complete).slots in
    let seen = ap (map slot_view) c.deref-2.ensures.value ∙ ap (λ (r : RawContent). r.slots) same in
    let count = complete_length is.raw.slots content.slots (completed_parts is.raw content is.complete).slots in
    let long : length c.deref-2.result.now ≡ length content.slots = sym (length-map c.deref-2.result.now slot_view) ∙ ap length seen ∙ sym count in
    let Slots : Type 0 = All (IsWritableSlot profile size page) content.slots in
    let Filled : Type 0 = follows ≡ true → content.slots ≢ [] in
    let Breaks : ProfileBreach → Type 0 = PairBreaksProfile profile size page follows p in
    let of_slots = c.breach_of_slots-of_slots.result in
    let empty = c.empty_pair_breach-empty.result in
    let large = c.oversized_pair_breach-large.result in
    let two = c.breach_to_report.result in
    told (Slots × Filled) (FitsInPair size page content) (IsWritablePair profile size page follows content) Breaks two large c.breach_to_report-2.result c.breach_to_report-2.ensures.none c.breach_to_report-2.ensures.either
    (told Slots Filled (Slots × Filled) Breaks of_slots empty two c.breach_to_report.ensures.none c.breach_to_report.ensures.either
    (weaker Slots Slots (SomeSlotBreaksProfile profile size page p.at content.slots) Breaks of_slots (c.breach_of_slots-of_slots.ensures content.slots all shaped) (λ h. h) (λ b h. inl h))
    (weaker (follows ≡ true → ¬ (length c.deref-2.result.now ≡ 0)) Filled (λ b. (b ≡ breach.EmptyPair c.args.pair) × (follows ≡ true) × (length c.deref-2.result.now ≡ 0)) Breaks empty c.empty_pair_breach-empty.ensures
    (λ filled f none. filled f (long ∙ ap length none)) (λ b h. inr (subst (PairItselfBreaksProfile size page follows p) (sym h.0) (refl, h.1, no_slots content.slots (sym long ∙ h.2)))))
    (λ h f. (h, f)))
    (weaker (RawContentFitsInPair size page (content_view c.in_ok-content.content)) (FitsInPair size page content) (λ b. (b ≡ breach.TooLarge c.args.pair) × ¬ RawContentFitsInPair size page (content_view c.in_ok-content.content)) Breaks large c.oversized_pair_breach-large.ensures
    (λ raw. fits_pair size page is.raw content sound is.complete (subst (RawContentFitsInPair size page) same raw))
    (λ b h. inr (subst (PairItselfBreaksProfile size page follows p) (sym h.0) (refl, λ fits. h.1 (subst (RawContentFitsInPair size page) (sym same) (fits_raw size page is.raw content sound is.complete fits))))))
    (λ parts pair. record { pair = pair; slots = parts.0; filled = parts.1 })
