use Rattle.std.proofs.Common.{[], length, sym, ap, ◌∙◌, arith}
use Rattle.lfs_device.specs.declared.geometry.Geometry.{Geometry}
use Rattle.lfs_file.proofs.Common.{InMemory}
use Rattle.lfs_file.proofs.contents.contents_in_memory.Goals as goal

pub returns-clause-holds : goal.returns-clause-holds
returns-clause-holds c map disk idle = record {
  stands = record { idle = idle; resting = record { geometry = sym ((c.replace_buffered.ensures.holds disk).geometry ∙ (c.in_ok-list.ensures.started.grown disk).geometry); held = c.replace_buffered.ensures.held } };
  has = c.replace_buffered.ensures.rest;
  form = ap (λ l. InMemory (length l)) c.replace_buffered.ensures.rest;
}

pub replace_buffered-requires : goal.replace_buffered-requires
replace_buffered-requires c =
    let same = ap (λ (k : Geometry). k.block_size) (c.in_ok-list.ensures.started.grown []).geometry in
    let few = c.requires in
    omega arith
