-- The code's changes as the definitions see them.
use Rattle.std.specs.Prelude.{List, map}
use Rattle.std.specs.Option.{option_map}
use Rattle.lfs_model.specs.format.Slots.{address_of_array}
use Rattle.lfs_model.specs.layers.Changes as model
use Rattle.lfs_tag.specs.FieldsView.{move_view}
use Rattle.lfs_pair.specs.declared.change.Change.{Change}
use Rattle.lfs_pair.specs.declared.change.Change.TheVariants as changes

-- One change as the definitions see it.
abbrev pub change_view : Change → model.ContentChange
change_view (changes.Create id kind name) = model.Create id kind name.now
change_view (changes.Delete id) = model.Delete id
change_view (changes.Struct id kind bytes) = model.PutStruct id kind bytes.now
change_view (changes.Attr id attr bytes) = model.PutAttribute id attr bytes.now
change_view (changes.NoAttr id attr) = model.RemoveAttribute id attr
change_view (changes.Tail hard pair) = model.PutTail hard (option_map address_of_array pair)
change_view (changes.Move state) = model.PutMove (move_view state)

-- Several changes as the definitions see them.
abbrev pub changes_view : List Change → List model.ContentChange
changes_view changes = map change_view changes
