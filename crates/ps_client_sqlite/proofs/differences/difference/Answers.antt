use Rattle.std.proofs.Common.{map}
use Rattle.std.specs.Prelude.{bytes_eq}
use Rattle.ps_client_sqlite.specs.Writing.{bucket_pair, entry_pairs, shown_pair, bucket_write, entry_write, shown_write, place_eq, object_eq}
use Rattle.ps_client_sqlite.proofs.Makings.{AreAll, adds_of, all_reached, all_writable, all_differ}
use Rattle.ps_client_sqlite.proofs.differences.difference.Goals as goal

pub returns-clause-reached : goal.returns-clause-reached
returns-clause-reached c =
    let old = c.args.old.now in
    let new = c.args.new.now in
    let a = c.new-writes.result.items in
    let b = c.add_buckets.new.writes.items in
    let d = c.add_entries.new.writes.items in
    let e = c.add_queued.new.writes.items in
    let f = c.add_target.new.writes.items in
    let g = c.add_shown.new.writes.items in
    let all : AreAll old new c.args.old_queue.now c.args.new_queue.now a b d e f g = record {
      none = c.new-writes.ensures.items;
      buckets = adds_of bytes_eq bucket_write (map bucket_pair) _ old.buckets _ new.buckets a b c.as_slice.ensures c.as_slice-2.ensures c.in_ok-add_buckets.ensures;
      entries = adds_of place_eq entry_write entry_pairs _ old.buckets _ new.buckets b d c.as_slice-3.ensures c.as_slice-4.ensures c.in_ok-add_entries.ensures;
      queue = c.in_ok-add_queued.ensures;
      target = c.in_ok-add_target.ensures;
      shown = adds_of object_eq shown_write (map shown_pair) _ old.shown _ new.shown f g c.as_slice-5.ensures c.as_slice-6.ensures c.in_ok-add_shown.ensures;
    } in
    all_reached old new c.args.old_queue.now c.args.new_queue.now a b d e f g all

pub returns-clause-writable : goal.returns-clause-writable
returns-clause-writable c =
    let old = c.args.old.now in
    let new = c.args.new.now in
    let a = c.new-writes.result.items in
    let b = c.add_buckets.new.writes.items in
    let d = c.add_entries.new.writes.items in
    let e = c.add_queued.new.writes.items in
    let f = c.add_target.new.writes.items in
    let g = c.add_shown.new.writes.items in
    let all : AreAll old new c.args.old_queue.now c.args.new_queue.now a b d e f g = record {
      none = c.new-writes.ensures.items;
      buckets = adds_of bytes_eq bucket_write (map bucket_pair) _ old.buckets _ new.buckets a b c.as_slice.ensures c.as_slice-2.ensures c.in_ok-add_buckets.ensures;
      entries = adds_of place_eq entry_write entry_pairs _ old.buckets _ new.buckets b d c.as_slice-3.ensures c.as_slice-4.ensures c.in_ok-add_entries.ensures;
      queue = c.in_ok-add_queued.ensures;
      target = c.in_ok-add_target.ensures;
      shown = adds_of object_eq shown_write (map shown_pair) _ old.shown _ new.shown f g c.as_slice-5.ensures c.as_slice-6.ensures c.in_ok-add_shown.ensures;
    } in
    all_writable old new c.args.old_queue.now c.args.new_queue.now a b d e f g c.requires all

pub returns-clause-differ : goal.returns-clause-differ
returns-clause-differ c =
    let old = c.args.old.now in
    let new = c.args.new.now in
    let a = c.new-writes.result.items in
    let b = c.add_buckets.new.writes.items in
    let d = c.add_entries.new.writes.items in
    let e = c.add_queued.new.writes.items in
    let f = c.add_target.new.writes.items in
    let g = c.add_shown.new.writes.items in
    let all : AreAll old new c.args.old_queue.now c.args.new_queue.now a b d e f g = record {
      none = c.new-writes.ensures.items;
      buckets = adds_of bytes_eq bucket_write (map bucket_pair) _ old.buckets _ new.buckets a b c.as_slice.ensures c.as_slice-2.ensures c.in_ok-add_buckets.ensures;
      entries = adds_of place_eq entry_write entry_pairs _ old.buckets _ new.buckets b d c.as_slice-3.ensures c.as_slice-4.ensures c.in_ok-add_entries.ensures;
      queue = c.in_ok-add_queued.ensures;
      target = c.in_ok-add_target.ensures;
      shown = adds_of object_eq shown_write (map shown_pair) _ old.shown _ new.shown f g c.as_slice-5.ensures c.as_slice-6.ensures c.in_ok-add_shown.ensures;
    } in
    all_differ old new c.args.old_queue.now c.args.new_queue.now a b d e f g all
