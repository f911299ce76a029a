use Rattle.std.proofs.Common.{ℕ, ◌≡◌, ◌≢◌, List, [], ◌++◌, take, drop, refl, sym, ap, ◌∙◌, subst, arith}
use Rattle.lfs_file.proofs.Common.{take-append-drop, Blocks, BlockStates, ListHasBytes, unwritten_rest_block, growing_bytes, growing_size_with, GrowingList, SharesFirstBlocks, stored_list_bytes, IsUnfinishedTo}
use Rattle.lfs_device.specs.declared.geometry.Geometry.{Geometry}
use Rattle.std.specs.Prelude.{All}
use Rattle.lfs_file.specs.declared.rest.RestLocation.{RestLocation}
use Rattle.lfs_file.specs.declared.rest.RestLocation.TheVariants.{Closed, Shared, Handed, Held}
use Rattle.lfs_file.specs.declared.stored_list.StoredList.{StoredList}
use Rattle.lfs_file.proofs.Hands.{begins, none_pending}
use Rattle.lfs_file.proofs.list_starts.start_draft.Goals as goal

-- the first bytes and those behind them
at_by : (map : BlockStates) (d : Blocks) (now : Geometry) (list : GrowingList) (base : StoredList) (shared keep count : ℕ) (front own all : List ℕ) → ListHasBytes now d list front count own all → front ≡ take keep (stored_list_bytes d now.block_size base) → count ≡ keep
    → SharesFirstBlocks map d now.block_size list base shared → IsUnfinishedTo map d now (record { list = list; base = base; shared = shared }) keep (stored_list_bytes d now.block_size base)
at_by map d now list base shared keep count front own all grown first is begun =
    let same : now ≡ list.geometry = sym grown.geometry in
    let sum : growing_size_with now.block_size list ≡ keep = grown.sum ∙ is in
    let size : growing_size_with list.geometry.block_size list ≡ keep = ap (λ (k : Geometry). growing_size_with k.block_size list) grown.geometry ∙ sum in
    record {
      begun = record { geometry = same; begun = subst (λ (k : Geometry). SharesFirstBlocks map d k.block_size list base shared) same begun };
      size = size;
      bytes = ap (λ (k : Geometry). growing_bytes d list ++ drop (growing_size_with k.block_size list) (stored_list_bytes d k.block_size base)) grown.geometry
          ∙ ap (λ (l : List ℕ). l ++ drop (growing_size_with now.block_size list) (stored_list_bytes d now.block_size base)) (grown.content ∙ first)
          ∙ ap (λ n. take keep (stored_list_bytes d now.block_size base) ++ drop n (stored_list_bytes d now.block_size base)) sum
          ∙ take-append-drop keep (stored_list_bytes d now.block_size base);
    }

-- none of the block's own waits
none_waits : (t : RestLocation) → ((other : ℕ) → All (λ b. b ≢ other) [] → All (λ b. b ≢ other) (unwritten_rest_block t)) → unwritten_rest_block t ≡ []
none_waits Closed waits = refl
none_waits (Shared b) waits = refl
none_waits (Handed b) waits = absurd (waits b (λ k x l. absurd (omega (arith, l))) 0 0 (omega arith) refl)
none_waits Held waits = refl

pub returns-then-keep-eq0-clause-begun : goal.returns-then-keep-eq0-clause-begun
returns-then-keep-eq0-clause-begun g c map stored =
    let d : Blocks = g.D.BlockDevice.blocks c.args.dev.now in
    let now : Geometry = g.D.BlockDevice.geometry c.args.dev.now in
    let list : GrowingList = c.in_ok-list.list in
    let grown : ListHasBytes now d list [] 0 [] [] = subst (λ (k : Geometry). ListHasBytes k d list [] 0 [] []) c.geometry.ensures (c.in_ok-list.ensures.started.grown d) in
    let none = none_pending d list grown.kept in
    let zero = c.if-keep-eq0.true in
    at_by map d now list c.args.base 0 c.args.keep 0 [] [] [] grown (ap (λ k. take k (stored_list_bytes d now.block_size c.args.base)) (sym zero)) (sym zero)
    (begins map d now.block_size list c.args.base 0 stored grown.growing none.0 grown.kept none.1)

pub returns-clause-begun : goal.returns-clause-begun
returns-clause-begun g c map stored =
    let d : Blocks = g.D.BlockDevice.blocks c.args.dev.now in
    let now : Geometry = g.D.BlockDevice.geometry c.args.dev.now in
    let list : GrowingList = c.in_ok-list-2.list in
    let grown = c.in_ok-list-2.ensures.resumed.grown in
    at_by map d now list c.args.base c.full_block_count-shared.result c.args.keep c.args.keep _ _ _ grown refl refl
    (subst (SharesFirstBlocks map d now.block_size list c.args.base) (sym c.full_block_count-shared.ensures)
    (begins map d now.block_size list c.args.base list.full stored grown.growing (none_waits list.stand c.in_ok-list-2.ensures.resumed.waits.pending) grown.kept refl))
