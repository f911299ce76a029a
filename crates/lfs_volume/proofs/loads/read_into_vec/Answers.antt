use Rattle.std.proofs.Common.{◌≡◌, ◌∙◌, sym, ap, subst, arith, length, take, List, ℕ, Ok}
use Rattle.std.specs.Prelude.{◌++◌, drop}
use Rattle.std.proofs.lemmas.List.{take-append-le, take_all}
use Rattle.lfs_fs.specs.CallEffects.{IsCall}
use Rattle.lfs_fs.specs.Replies.{reply_from}
use Rattle.lfs_model.specs.session.Operations as ops
use Rattle.lfs_volume.proofs.VolumeSteps.{passed_error}
use Rattle.lfs_volume.proofs.loads.read_into_vec.Goals as goal

all_of : (len : ℕ) (buf more : List ℕ) → length buf ≡ len → take len (buf ++ more) ≡ buf
all_of len buf more is = take-append-le len buf more (omega (arith, is)) ∙ take_all len buf (omega (arith, is))

pub returns-in_err-count : goal.returns-in_err-count
returns-in_err-count g c =
    subst (λ (bs : List ℕ). IsCall c.args.session.now (ops.Read c.args.fd (length bs)) (reply_from (λ v. ops.Bytes v.items) c.from_residual.result) c.read_into.new.self) c.deref_mut.ensures.value
    (passed_error (λ v. ops.Bytes v.items) c.from_residual.result _ (λ z. IsCall c.args.session.now (ops.Read c.args.fd (length c.deref_mut.result.now)) z c.read_into.new.self) c.from_residual.ensures.1 c.in_err-count.ensures.call)

pub returns : goal.returns
returns g c =
    let long : length c.read_into.new.buf ≡ c.args.bytes.len = omega (arith, ap (λ (xs : List ℕ). length xs) c.deref_mut.ensures.value, c.args.bytes.ok.0) in
    let same = c.truncate.ensures.items ∙ ap (take c.in_ok-count.count) (all_of c.args.bytes.len c.read_into.new.buf (drop (length c.read_into.new.buf) c.args.bytes.items) long) in
    subst (λ (bs : List ℕ). IsCall c.args.session.now (ops.Read c.args.fd (length bs)) (Ok (ops.Bytes c.truncate.new.self.items)) c.read_into.new.self) c.deref_mut.ensures.value
    (subst (λ (bs : List ℕ). IsCall c.args.session.now (ops.Read c.args.fd (length c.deref_mut.result.now)) (Ok (ops.Bytes bs)) c.read_into.new.self) (sym same) c.in_ok-count.ensures.call)
