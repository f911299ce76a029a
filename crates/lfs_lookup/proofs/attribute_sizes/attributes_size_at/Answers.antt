use Rattle.std.proofs.Common.{◌≡◌, ◌<◌, ◌∙◌, List, Some, ap, arith, length, slice_get, slice_index_or, subst, sym, rules}
use Rattle.std.specs.Prelude.{IfOk}
use Rattle.lfs_lookup.proofs.Common.{read_count, Pair, IsAttributesSize, KeptThread, empty_anchor}
use Rattle.lfs_lookup.proofs.AttributeAtSlots.{no_slot, slot_is_cached, slot_for}
use Rattle.lfs_lookup.proofs.AttributesPut.{none_sized}
use Rattle.lfs_lookup.proofs.Reading.{answered, further}
use Rattle.lfs_lookup.proofs.attribute_sizes.attributes_size_at.Goals as goal

pub cached_attributes_size-requires-clause-below : goal.cached_attributes_size-requires-clause-below
cached_attributes_size-requires-clause-below g c =
    let t = c.args.thread.now.kept in
    let f = slot_for t c.args.path.now c.in_ok-shown.shown c.in-Some.slot c.in_ok-shown.ensures.shown (sym c.slot_of_lookup.ensures ∙ c.in-Some.is) in
    subst (λ (ps : List Pair). c.in-Some.slot.pair < length ps) (sym c.look_up_path.ensures.reading.only.pairs) f.below

pub cached_attributes_size-requires-clause-cached_log : goal.cached_attributes_size-requires-clause-cached_log
cached_attributes_size-requires-clause-cached_log g c =
    slot_is_cached c.look_up_path.new.thread c.in_ok-shown.shown (Some c.in-Some.slot) c.in_ok-shown.ensures.cached_log (sym (sym c.slot_of_lookup.ensures ∙ c.in-Some.is))

pub returns-clause-is : goal.returns-clause-is
returns-clause-is g c =
    let t = c.args.thread.now.kept in
    let f = slot_for t c.args.path.now c.in_ok-shown.shown c.in-Some.slot c.in_ok-shown.ensures.shown (sym c.slot_of_lookup.ensures ∙ c.in-Some.is) in
    subst (λ a. IfOk c.cached_attributes_size.result (IsAttributesSize a)) f.attributes
    (c.cached_attributes_size.ensures.is f.held
    (subst (λ (ps : List Pair). slice_get (slice_index_or ps c.in-Some.slot.pair empty_anchor).content.slots c.in-Some.slot.id ≡ Some f.held) (sym c.look_up_path.ensures.reading.only.pairs) f.there))

pub returns-clause-reading : goal.returns-clause-reading
returns-clause-reading g c =
    further _ _ _ c.cached_attributes_size.result (answered _ _ c.look_up_path.result c.in_ok-shown.shown c.in_ok-shown.was c.look_up_path.ensures.reading) c.cached_attributes_size.ensures.reading

pub returns-in_default-clause-is : goal.returns-in_default-clause-is
returns-in_default-clause-is g c =
    subst (λ a. IsAttributesSize a 0) (sym (no_slot c.args.thread.now.kept c.args.path.now c.in_ok-shown.shown c.in_ok-shown.ensures.shown (sym c.slot_of_lookup.ensures ∙ c.in_default.is))) none_sized

pub returns-clause-reads : goal.returns-clause-reads
returns-clause-reads g c = record {
  few = (
      let f = c.look_up_path.ensures.reads.few in
      let e = ap (λ (t : KeptThread). read_count t.history) c.cached_attributes_size.ensures.no_call in
      omega (arith, f, e)
      );
  halves = λ settled slots. (
      let k = c.look_up_path.ensures.reads.halves settled slots in
      let e = ap (λ (t : KeptThread). read_count t.history) c.cached_attributes_size.ensures.no_call in
      omega (arith, k, e)
      );
  kept = λ there. ap (λ (t : KeptThread). read_count t.history) c.cached_attributes_size.ensures.no_call ∙ c.look_up_path.ensures.reads.loads.none there;
}

pub returns-in_err-shown-clause-reads : goal.returns-in_err-shown-clause-reads
returns-in_err-shown-clause-reads g c = record {
  few = search rules;
  halves = search rules;
  kept = c.look_up_path.ensures.reads.loads.none;
}

pub returns-in_default-clause-reads : goal.returns-in_default-clause-reads
returns-in_default-clause-reads g c = record {
  few = search rules;
  halves = search rules;
  kept = c.look_up_path.ensures.reads.loads.none;
}
