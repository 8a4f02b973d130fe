-- 02, K2, "Which broker sent it": "Day log version 2 has records of 24 bytes: 20..21 the first order's broker, 22..23
-- the second's (zero in a cancel), each 1 to 65,535. Version 1 logs are still read, with broker 0 meaning not known."
use Rattle.std.specs.Prelude.{ℕ, Bool, ◌&&◌, ◌||◌, not, List, eqb, get_or}
use Rattle.wire.specs.Choice.{pick}
use Rattle.wire.specs.Bytes.{le}
use Rattle.daylog.specs.declared.broker.Brokers.{Brokers}

-- in this version a record has four bytes more, for its brokers
abbrev pub has_brokers : (version : ℕ) → Bool
has_brokers version = eqb version 2

-- the brokers of a record's two orders, in a log of a version
unfoldable pub brokers_of : (version : ℕ) → List ℕ → Brokers
brokers_of version row =
    pick (has_brokers version) (record { first = le 2 row 20; second = le 2 row 22 }) (record { first = 0; second = 0 })

-- "a broker of zero in version 2 where one is due is 11": a trade has two brokers, a cancel the first and no second
unfoldable pub brokers_wrong : (version : ℕ) → List ℕ → Bool
brokers_wrong version row =
    let sort = get_or row 0 0 in
    let b = brokers_of version row in
    has_brokers version
    && ((eqb sort 1 && (eqb b.first 0 || eqb b.second 0))
    || (eqb sort 2 && (eqb b.first 0 || not (eqb b.second 0))))
