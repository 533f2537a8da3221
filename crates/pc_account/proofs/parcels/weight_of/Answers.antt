use Rattle.std.proofs.Common.{ap, arith, add-one}
use Rattle.pc_account.specs.Limits.{weight_in}
use Rattle.pc_tables.proofs.Totals.{total-more}
use Rattle.pc_account.proofs.parcels.weight_of.Goals as goal

pub loop-parcel-preserved : goal.loop-parcel-preserved
loop-parcel-preserved c =
    let more = total-more weight_in c.args.parcels.now c.loop-parcel.parcel-index c.parcel-item.result c.loop-parcel-test.true in
    let here = ap weight_in c.parcel-item.is in
    let so_far = c.loop-parcel.invariant.so_far in
    let bound = c.loop-parcel.invariant.bound in record {
      so_far = rw add-one (omega (arith, more, here, so_far));
      bound = omega (arith, bound);
    }
