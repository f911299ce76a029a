-- What steps of a session keep of the disk: its shape, and without a remount the order of its names.
use Rattle.std.proofs.Common.{◌≡◌, Bool, true, false, cond, List, [], ◌∷◌, refl, sym, ap, subst, ◌∙◌}
use Rattle.lfs_fs.proofs.Common.{Disk, SameGeometry, disk_with_order, Operation, Reply, SystemState, is_remount, Each}
use Rattle.lfs_model.specs.session.Run.{AreSteps}

shape_by : (b : Bool) (disk new : Disk) → SameGeometry (cond b (disk_with_order new.order disk) disk) new → SameGeometry (disk_with_order new.order disk) new
shape_by true disk new g = g
shape_by false disk new g = record { block_size = g.block_size; page = g.page; order = refl; profile = g.profile; count = g.count }

order_by : (b : Bool) (disk new : Disk) → SameGeometry (cond b (disk_with_order new.order disk) disk) new → b ≡ false → new.order ≡ disk.order
order_by true disk new g e = absurd (cc)
order_by false disk new g e = g.order

pub steps_keep_shape : (operations : List Operation) (replies : List Reply) (a b : SystemState) → AreSteps a operations replies b → SameGeometry (disk_with_order b.disk.order a.disk) b.disk
steps_keep_shape [] [] a b e = subst (λ (m : SystemState). SameGeometry (disk_with_order m.disk.order a.disk) m.disk) e (record { block_size = refl; page = refl; order = refl; profile = refl; count = refl })
steps_keep_shape [] (reply ∷ replies) a b e = absurd e
steps_keep_shape (op ∷ operations) [] a b e = absurd e
steps_keep_shape (op ∷ operations) (reply ∷ replies) a b (next, (turn, rest)) =
    let s = steps_keep_shape operations replies next b rest in
    let t = shape_by (is_remount op) a.disk next.disk turn.geometry in
    record { block_size = s.block_size ∙ t.block_size; page = s.page ∙ t.page; order = refl; profile = s.profile ∙ t.profile; count = s.count ∙ t.count }

pub steps_keep_order : (operations : List Operation) (replies : List Reply) (a b : SystemState) → Each (λ op. is_remount op ≡ false) operations → AreSteps a operations replies b → b.disk.order ≡ a.disk.order
steps_keep_order [] [] a b none e = sym (ap (λ (m : SystemState). m.disk.order) e)
steps_keep_order [] (reply ∷ replies) a b none e = absurd e
steps_keep_order (op ∷ operations) [] a b none e = absurd e
steps_keep_order (op ∷ operations) (reply ∷ replies) a b none (next, (turn, rest)) =
    steps_keep_order operations replies next b none.1 rest ∙ order_by (is_remount op) a.disk next.disk turn.geometry none.0
