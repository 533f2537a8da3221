use Rattle.std.proofs.Common.{ap, arith, add-one}
use Rattle.pc_account.specs.Taking.{bytes_of_parcel}
use Rattle.pc_tables.proofs.Totals.{total-more}
use Rattle.pc_account.proofs.taking.bytes_of.Goals as goal

pub loop-parcel-preserved : goal.loop-parcel-preserved
loop-parcel-preserved c =
    let more = total-more bytes_of_parcel c.args.parcels.now c.loop-parcel.parcel-index c.parcel-item.result c.loop-parcel-test.true in
    let here = ap bytes_of_parcel c.parcel-item.is in
    let so_far = c.loop-parcel.invariant.so_far in
    let bound = c.loop-parcel.invariant.bound in
    let bytes = c.bytes_of_parcel-bytes.ensures.bytes in
    let most = c.bytes_of_parcel-bytes.ensures.bound in record {
      so_far = rw add-one (omega (arith, more, here, bytes, so_far));
      bound = omega (arith, bound, most);
    }
