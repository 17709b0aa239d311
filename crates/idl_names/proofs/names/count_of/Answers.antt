use Rattle.std.proofs.Common.{◌<◌, ◌≤◌, ◌*◌, ◌^◌, length, arith}
use Rattle.idl_names.proofs.Counting.{counted_more, few_here}
use Rattle.idl_names.proofs.names.count_of.Goals as goal

pub overflow_add-count : goal.overflow_add-count
overflow_add-count c =
    let few : length c.as_slice.result.now < 2 ^ 32 = few_here c.args.files.now c.file-item.result c.as_slice.result.now c.loop-file.file-index c.loop-file-test.true c.file-item.is c.as_slice.ensures c.requires.few in
    let bounded : c.loop-file.count ≤ c.loop-file.file-index * 4294967295 = c.loop-file.invariant.bounded in
    let files : length c.args.files.now < 2 ^ 32 = c.requires.few_files in
    let here : c.loop-file.file-index < length c.args.files.now = c.loop-file-test.true in
    omega arith

pub loop-file-preserved : goal.loop-file-preserved
loop-file-preserved c =
    let few : length c.as_slice.result.now < 2 ^ 32 = few_here c.args.files.now c.file-item.result c.as_slice.result.now c.loop-file.file-index c.loop-file-test.true c.file-item.is c.as_slice.ensures c.requires.few in
    let bounded : c.loop-file.count ≤ c.loop-file.file-index * 4294967295 = c.loop-file.invariant.bounded in
    record {
      exact = counted_more c.args.files.now c.file-item.result c.as_slice.result.now c.loop-file.file-index c.loop-file-test.true c.file-item.is c.as_slice.ensures c.loop-file.count c.loop-file.invariant.exact;
      bounded = omega arith;
    }
