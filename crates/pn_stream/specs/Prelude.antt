-- The names that contracts of the crates above cite, passed on from one place. Declares nothing.
pub use Rattle.pn_stream.specs.Brokers.{AreHonest, BrokerRecord, up_to, DeliveryValue}
