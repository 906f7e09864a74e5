pub mod OwnCertificates
