use Rattle.std.proofs.Common.{ℕ, List, sym, ap, ◌∙◌, subst}
use Rattle.lfs_lookup.proofs.Common.{IsNameOrStruct, decoded_struct, logged, IsStructEntry}
use Rattle.lfs_tag.specs.FindView.{IsNameLookup}
use Rattle.lfs_lookup.proofs.NamedSlots.{stands_in, kept_in, belongs_in, absent_in, read_there, some_part, part_is}
use Rattle.lfs_lookup.proofs.search.find_in_log.Goals as goal

pub unwrap-structure-requires : goal.unwrap-structure-requires
unwrap-structure-requires c =
    let (content, is) = c.requires in
    let sound = logged c.args.log.now is.raw is.bytes is.log in
    let s = stands_in c.args.order content c.args.name.now c.args.skip is.raw sound is.complete c.in-Found.id (subst (IsNameLookup c.args.order c.args.name.now c.args.skip is.raw.slots) c.in-Found.is (c.find.ensures is.raw is.log is.short)) in
    let r = read_there c.args.order content c.args.name.now c.args.skip is.raw sound is.complete c.in-Found.id s in
    some_part c.struct_of_slot.result _ r.part (c.struct_of_slot.ensures.held is.raw is.log) r.is

pub entry_of_struct-requires : goal.entry_of_struct-requires
entry_of_struct-requires c =
    let (content, is) = c.requires in
    let sound = logged c.args.log.now is.raw is.bytes is.log in
    let s = stands_in c.args.order content c.args.name.now c.args.skip is.raw sound is.complete c.in-Found.id (subst (IsNameLookup c.args.order c.args.name.now c.args.skip is.raw.slots) c.in-Found.is (c.find.ensures is.raw is.log is.short)) in
    let r = read_there c.args.order content c.args.name.now c.args.skip is.raw sound is.complete c.in-Found.id s in
    subst (IsNameOrStruct 2) (sym (part_is c.struct_of_slot.result c.unwrap-structure.result _ r.part c.unwrap-structure.ensures (c.struct_of_slot.ensures.held is.raw is.log) r.is)) r.is_part

pub returns-in-Found : goal.returns-in-Found
returns-in-Found c content is =
    let sound = logged c.args.log.now is.raw is.bytes is.log in
    let s = stands_in c.args.order content c.args.name.now c.args.skip is.raw sound is.complete c.in-Found.id (subst (IsNameLookup c.args.order c.args.name.now c.args.skip is.raw.slots) c.in-Found.is (c.find.ensures is.raw is.log is.short)) in
    let r = read_there c.args.order content c.args.name.now c.args.skip is.raw sound is.complete c.in-Found.id s in
    let same = part_is c.struct_of_slot.result c.unwrap-structure.result _ r.part c.unwrap-structure.ensures (c.struct_of_slot.ensures.held is.raw is.log) r.is in
    record {
      stands = s;
      shows = subst (IsStructEntry c.entry_of_struct.result) (ap (λ (p : ℕ × List ℕ). decoded_struct p.0 p.1) same ∙ sym r.struct) c.entry_of_struct.ensures;
      kept = kept_in c.args.order content c.args.name.now c.args.skip is.raw sound is.complete c.in-Found.id (subst (IsNameLookup c.args.order c.args.name.now c.args.skip is.raw.slots) c.in-Found.is (c.find.ensures is.raw is.log is.short));
    }

pub returns-in-Place : goal.returns-in-Place
returns-in-Place c content is =
    let sound = logged c.args.log.now is.raw is.bytes is.log in
    let place = subst (IsNameLookup c.args.order c.args.name.now c.args.skip is.raw.slots) c.in-Place.is (c.find.ensures is.raw is.log is.short) in
    record {
      absent = absent_in c.args.order content c.args.name.now c.args.skip is.raw sound is.complete c.in-Place.id place;
      place = belongs_in c.args.order content c.args.name.now c.args.skip is.raw sound is.complete c.in-Place.id place;
    }
