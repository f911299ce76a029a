use Rattle.std.proofs.Common.{ℕ, ◌≡◌, ◌-◌, ◌*◌, ◌<◌, ◌^◌, ◌++◌, List, length, take, drop, slice_index, refl, ap, subst, ◌∙◌, arith}
use Rattle.lfs_file.proofs.Common.{SameExcept-trans, Blocks, SameExcept, block_bytes, read_count, blocks_to_head, pointer_count, word_at}
use Rattle.lfs_model.proofs.Histories.{erase_count-read_count, program_count-read_count}
use Rattle.lfs_model.specs.session.History.{erase_count, program_count}
use Rattle.lfs_file.proofs.Grown.{chain_grown, grown_back}
use Rattle.lfs_file.proofs.Called.{changes_on, erase_once, only_read, program_once}
use Rattle.lfs_file.proofs.Words.{block_bytes-written, word_at-written, data-written}
use Rattle.lfs_file.proofs.block.write_block.Goals as goal

-- an erase of the block on the disk as it was
erased : (d same mid : Blocks) (block : ℕ) → same ≡ d → SameExcept block same mid → SameExcept block d mid
erased d same mid block e others = subst (λ k. SameExcept block k mid) e others

pub returns-in_err-write_pointers-clause-device : goal.returns-in_err-write_pointers-clause-device
returns-in_err-write_pointers-clause-device g c = only_read g.D.BlockDevice c.args.block c.write_pointers.ensures.device

pub returns-in_err-erase-clause-device : goal.returns-in_err-erase-clause-device
returns-in_err-erase-clause-device g c =
    changes_on g.D.BlockDevice (only_read g.D.BlockDevice c.args.block c.write_pointers.ensures.device) (erase_once g.D.BlockDevice c.erase.ensures.history c.erase.ensures.others c.erase.ensures.geometry)

pub returns-in_err-prog-clause-device : goal.returns-in_err-prog-clause-device
returns-in_err-prog-clause-device g c =
    changes_on g.D.BlockDevice
    (changes_on g.D.BlockDevice (only_read g.D.BlockDevice c.args.block c.write_pointers.ensures.device) (erase_once g.D.BlockDevice c.erase.ensures.history c.erase.ensures.others c.erase.ensures.geometry))
    (program_once g.D.BlockDevice c.prog.ensures.history c.prog.ensures.programs.others c.prog.ensures.geometry)

pub returns-clause-device : goal.returns-clause-device
returns-clause-device g c =
    changes_on g.D.BlockDevice
    (changes_on g.D.BlockDevice (only_read g.D.BlockDevice c.args.block c.write_pointers.ensures.device) (erase_once g.D.BlockDevice c.erase.ensures.history c.erase.ensures.others c.erase.ensures.geometry))
    (program_once g.D.BlockDevice c.prog.ensures.history c.prog.ensures.programs.others c.prog.ensures.geometry)

-- the block is the buffer's beginning, and what the erase left
block_is : (g : _) (c : goal.In_ok-prog g) → block_bytes (g.D.BlockDevice.blocks c.prog.new.self) c.args.block
    ≡ take c.args.end c.write_pointers.new.buf ++ drop c.args.end (block_bytes (g.D.BlockDevice.blocks c.erase.new.self) c.args.block)
block_is g c =
    let shape = g.met.D.BlockDevice.shape c.args.dev.now in
    let others = erased _ _ _ _ c.write_pointers.ensures.device.same c.erase.ensures.others in
    block_bytes-written _ _ c.args.block c.args.end _ c.write_pointers.new.buf (omega (arith, shape.count, others.count, c.requires.follows.in_device)) (omega (arith, c.write_pointers.auto.buf, c.requires.size, c.requires.room)) refl c.in_ok-prog.ensures.programs.ok

points : (g : _) (c : goal.In_ok-prog g) → (k : ℕ) → k < pointer_count c.args.front.now.count → word_at (block_bytes (g.D.BlockDevice.blocks c.prog.new.self) c.args.block) (4 * k)
    ≡ slice_index (blocks_to_head (g.D.BlockDevice.blocks c.args.dev.now) c.args.front.now.count c.args.front.now.head) (c.args.front.now.count - 2 ^ k)
points g c k less =
    ap (λ (b : List ℕ). word_at b (4 * k)) (block_is g c)
    ∙ word_at-written c.write_pointers.new.buf _ c.args.end (4 * k) (omega (arith, c.write_pointers.auto.buf, c.requires.size, c.requires.room)) (omega (arith, c.requires.pointers))
    ∙ c.in_ok-write_pointers.ensures.puts.pointers k less

whole : (g : _) (c : goal.In_ok-prog g) → SameExcept c.args.block (g.D.BlockDevice.blocks c.args.dev.now) (g.D.BlockDevice.blocks c.prog.new.self)
whole g c = SameExcept-trans (erased _ _ _ _ c.write_pointers.ensures.device.same c.erase.ensures.others) c.prog.ensures.programs.others

pub returns-clause-block : goal.returns-clause-block
returns-clause-block g c = record {
  appended =
      let shape = g.met.D.BlockDevice.shape c.args.dev.now in
      let there : c.args.block < length (g.D.BlockDevice.blocks c.args.dev.now) = omega (arith, shape.count, c.requires.follows.in_device) in
      record {
        chain = chain_grown _ _ c.args.front.now.count c.args.front.now.head c.args.block c.requires.follows.chain (whole g c) there c.requires.follows.apart (points g c);
        back = grown_back _ _ c.args.front.now.count c.args.front.now.head c.args.block c.requires.follows.chain (whole g c) there c.requires.follows.apart (points g c);
      };
  held =
      let p : ℕ = 4 * pointer_count c.args.front.now.count in
      ap (λ (b : List ℕ). take (c.args.end - p) (drop p b)) (block_is g c)
      ∙ data-written c.write_pointers.new.buf _ c.args.end p (omega (arith, c.write_pointers.auto.buf, c.requires.size, c.requires.room)) c.requires.pointers
      ∙ ap (take (c.args.end - p)) c.write_pointers.ensures.puts.rest;
}

pub returns-clause-calls : goal.returns-clause-calls
returns-clause-calls g c = record {
  writes =
      record {
        erased = omega (arith, ap erase_count c.in_ok-prog.ensures.history, ap erase_count c.in_ok-erase.ensures.history, erase_count-read_count c.write_pointers.ensures.device.reads);
        programmed = omega (arith, ap program_count c.in_ok-prog.ensures.history, ap program_count c.in_ok-erase.ensures.history, program_count-read_count c.write_pointers.ensures.device.reads);
      };
  few =
      let read = c.in_ok-write_pointers.ensures.few in
      let same : read_count (g.D.BlockDevice.history c.prog.new.self) ≡ read_count (g.D.BlockDevice.history c.write_pointers.new.dev) = omega (arith, ap read_count c.in_ok-prog.ensures.history, ap read_count c.in_ok-erase.ensures.history) in
      record { few = omega (arith, same, read.few); none = λ all. (let none = read.none all in (none.0, same ∙ none.1)) };
}
