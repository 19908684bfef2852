use Rattle.std.proofs.Common.{◌≡◌, subst}
use Rattle.occam_base.specs.Entries.{IsFirstAt, IsMissing}
use Rattle.occam_base.proofs.FileMaps.{map_replaced, map_pushed}
use Rattle.occam_base.proofs.mem_shelf.put_entry.Goals as goal

pub returns-in-Some-clause-ok : goal.returns-in-Some-clause-ok
returns-in-Some-clause-ok c =
    let name : c.in_ok-from_slice.field-0 ≡ c.args.name.now = c.in_ok-from_slice.ensures in
    let bytes : c.in_ok-from_slice-2.field-0 ≡ c.args.bytes.now = c.in_ok-from_slice-2.ensures in
    let first : IsFirstAt c.args.name.now c.args.files.now c.in-Some.place = subst (λ s. IsFirstAt c.args.name.now s c.in-Some.place) c.as_slice.ensures c.in-Some.ensures.place in
    rw (c.set.ensures, name, bytes) (map_replaced c.args.name.now c.args.bytes.now c.args.files.now c.in-Some.place first)

pub returns-in_ok-push-in-None-clause-ok : goal.returns-in_ok-push-in-None-clause-ok
returns-in_ok-push-in-None-clause-ok c =
    let name : c.in_ok-from_slice.field-0 ≡ c.args.name.now = c.in_ok-from_slice.ensures in
    let bytes : c.in_ok-from_slice-2.field-0 ≡ c.args.bytes.now = c.in_ok-from_slice-2.ensures in
    let missing : IsMissing c.args.name.now c.args.files.now = subst (IsMissing c.args.name.now) c.as_slice.ensures c.in-None.ensures.place in
    rw (c.in_ok-push-in-None.ensures.ok, name, bytes) (map_pushed c.args.name.now c.args.bytes.now c.args.files.now missing)
