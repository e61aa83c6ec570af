use Rattle.layout.proofs.Common.{◌≡◌, ℕ, ◌<◌, ◌^◌, List, length, take, drop, get_or, ap, ◌∙◌, ◌-◌, arith}
use Rattle.layout.proofs.Common.{between_to_end, little_number, number_at, numbers_in}
use Rattle.layout.proofs.ReadsBack.{numbers_in-take, length-numbers_in, get_or-numbers_in, number_at-fits}
use Rattle.layout.proofs.DiskInode.from_front.Goals as goal

-- the bytes that `&bytes[i..]` refers to
rest : (bytes : List ℕ) (n i : ℕ)
    → little_number n (take (length bytes - i) (drop i bytes)) ≡ little_number n (drop i bytes)
rest bytes n i = ap (little_number n) (between_to_end bytes i (length bytes) (omega arith))

pub returns : goal.returns
returns c =
    let bytes = c.args.bytes.now in
    let addresses : c.read_numbers.new.numbers ≡ numbers_in 13 (drop 12 bytes) = c.read_numbers.ensures
    ∙ numbers_in-take 52 13 (drop 12 bytes) (omega arith) in
    record {
      inode = λ i. record {
        kind = c.read_u16.ensures i;
        major = (c.read_u16-2.ensures ∙ rest bytes 2 2) i;
        minor = (c.read_u16-3.ensures ∙ rest bytes 2 4) i;
        links = (c.read_u16-4.ensures ∙ rest bytes 2 6) i;
        size = (c.read_u32.ensures ∙ rest bytes 4 8) i;
        addresses = addresses i;
      };
      fits = record {
        kind = c.read_u16.type_inv;
        major = c.read_u16-2.type_inv;
        minor = c.read_u16-3.type_inv;
        links = c.read_u16-4.type_inv;
        size = c.read_u32.type_inv;
        addresses = λ i h.
            let within : i < 13 = omega (arith, ap length addresses, length-numbers_in 13 (drop 12 bytes)) in
            let e : get_or c.read_numbers.new.numbers i 0 ≡ number_at (drop 12 bytes) i =
            ap (λ l. get_or l i 0) addresses ∙ get_or-numbers_in 13 (drop 12 bytes) i within in
            let f : number_at (drop 12 bytes) i < 2 ^ 32 =
            number_at-fits bytes 12 i (λ j. omega (arith, c.type_inv.bytes j)) in
            omega arith;
        places = omega (arith, ap length addresses, length-numbers_in 13 (drop 12 bytes));
      };
    }
