use Rattle.std.proofs.Common.{Option, ap, subst, sym}
use Rattle.std.proofs.Common.{ap}
use Rattle.lfs_lookup.proofs.Common.{attribute_bytes, AreAttributesAt}
use Rattle.lfs_lookup.specs.declared.search.SlotPosition.{SlotPosition}
use Rattle.lfs_lookup.proofs.AttributeAtSlots.{attribute_same}
use Rattle.lfs_lookup.proofs.attributes.attribute_if_slot.Goals as goal

pub returns-in-Some-clause-is : goal.returns-in-Some-clause-is
returns-in-Some-clause-is g c attributes held =
    let h = subst (λ (o : Option SlotPosition). AreAttributesAt c.args.thread.now.kept o attributes) c.in-Some.is held in
    attribute_same c.args.kind h.0.attributes attributes c.attribute_of_slot.result h.1.1 (c.attribute_of_slot.ensures.is h.0 h.1.0)

pub returns-in-None-clause-is : goal.returns-in-None-clause-is
returns-in-None-clause-is g c attributes held =
    ap (attribute_bytes c.args.kind) (sym (subst (λ (o : Option SlotPosition). AreAttributesAt c.args.thread.now.kept o attributes) c.in-None.is held))
